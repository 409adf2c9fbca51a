-- `fits_buffer` meets its contract. Assumes nothing.
use Rattle.two_words.proofs.Laws.{idle-fits}
use Rattle.two_words.proofs.fits_buffer.Goals as goal

pub returns : goal.returns
returns c = idle-fits _ _ _
