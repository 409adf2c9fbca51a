-- `css::css_located` meets its contract. Assumes nothing.
use mathlib.Core.Path.{sym}
use Rattle.firmware.proofs.Judged.{no_header}
use Rattle.firmware.proofs.css.css_located.Goals as goal

pub returns-then-blob-lt-HEADER_BYTES : goal.returns-then-blob-lt-HEADER_BYTES
returns-then-blob-lt-HEADER_BYTES c = sym (no_header _ _ c.if-blob-lt-HEADER_BYTES.true)
