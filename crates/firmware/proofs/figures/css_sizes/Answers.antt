-- `figures::css_sizes` meets its contract. Assumes nothing.
use borrow.Author.Tests.{lt-ltb, le-ltb}
use Rattle.firmware.specs.Figures.{header_sizes}
use Rattle.firmware.proofs.figures.css_sizes.Goals as goal

pub returns-then-blob-lt-HEADER_BYTES : goal.returns-then-blob-lt-HEADER_BYTES
unfolding header_sizes
returns-then-blob-lt-HEADER_BYTES c = simp (lt-ltb _ _ c.if-blob-lt-HEADER_BYTES.true)

pub returns : goal.returns
unfolding header_sizes
returns c = simp (le-ltb _ _ c.if-blob-lt-HEADER_BYTES.false) c.read_sizes.ensures.0
