-- An image's version for C meets its contract. Assumes nothing.
use Rattle.firmware.specs.Version.{of_version}
use Rattle.guc.specs.Parts.{version_by}
use Rattle.guc.proofs.versions.VersionFromResultFirmwareVersionRefusal.from.Goals as goal

pub returns-in-Ok : goal.returns-in-Ok
unfolding version_by of_version
returns-in-Ok c = simp (c.in-Ok.is, c.from.ensures, c.from-in-Ok.ensures, c.from-in-Ok-2.ensures)

pub returns-in-Err : goal.returns-in-Err
unfolding version_by of_version
returns-in-Err c = simp (c.in-Err.is, c.number.ensures)
