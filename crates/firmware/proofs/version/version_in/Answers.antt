-- `version::version_in` meets its contract. Assumes nothing.
use borrow.Author.Tests.{lt-ltb, le-ltb}
use Rattle.firmware.specs.Version.{of_manifest, reading}
use Rattle.firmware.specs.Private.{manifest_in}
use Rattle.firmware.proofs.version.version_in.Goals as goal

pub returns-then-m-lt-MANIFEST_MIN : goal.returns-then-m-lt-MANIFEST_MIN
unfolding of_manifest manifest_in reading
returns-then-m-lt-MANIFEST_MIN c = simp (lt-ltb _ _ c.if-m-lt-MANIFEST_MIN.true)

pub returns : goal.returns
unfolding of_manifest manifest_in reading
returns c = simp (le-ltb _ _ c.if-m-lt-MANIFEST_MIN.false) (cc)
