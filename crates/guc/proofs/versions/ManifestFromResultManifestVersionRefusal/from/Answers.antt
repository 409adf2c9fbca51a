-- A manifest's version for C meets its contract. Assumes nothing.
use Rattle.firmware.specs.Version.{of_manifest}
use Rattle.guc.specs.Parts.{manifest_by}
use Rattle.guc.proofs.versions.ManifestFromResultManifestVersionRefusal.from.Goals as goal

pub returns-in-Ok : goal.returns-in-Ok
unfolding manifest_by of_manifest
returns-in-Ok c =
    simp (c.in-Ok.is, c.from.ensures, c.from-in-Ok.ensures, c.from-in-Ok-2.ensures, c.from-in-Ok-3.ensures)

pub returns-in-Err : goal.returns-in-Err
unfolding manifest_by of_manifest
returns-in-Err c = simp (c.in-Err.is, c.number.ensures)
