-- `words::is_idle` meets its contract: it tests the numbers, and the copy. Assumes nothing.
use Rattle.message.proofs.Slices.{to_end}
use Rattle.side.specs.Words.{state_of}
use Rattle.side.proofs.words.is_idle.Goals as goal

pub returns : goal.returns
unfolding state_of
returns c = simp (c.fits_idle.ensures, c.requires.1, to_end)
