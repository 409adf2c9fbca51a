-- `numbers_of` meets its contract. Assumes nothing.
use Rattle.two_words.specs.TwoWords.{idle_of}
use Rattle.two_words.proofs.numbers_of.Goals as goal

pub returns : goal.returns
unfolding idle_of
returns c = (c.wide.ensures, c.wide-2.ensures)
