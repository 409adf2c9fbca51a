-- `numbers::number_size` meets its contract. Assumes nothing.
use Rattle.record.proofs.Sizes.{size_of}
use Rattle.record.proofs.numbers.number_size.Goals as goal

pub returns : goal.returns
returns c =
    rw (c.from.ensures, c.from-2.ensures, c.from-3.ensures, c.from-4.ensures) (size_of c.args.value c.ranges.value.fits)
