-- `version::huc_version` meets its contract. Assumes nothing.
use Rattle.std.proofs.lemmas.Result.{err_from_is_err_and}
use Rattle.refusal.proofs.NotZero.{number-not-0}
use Rattle.firmware.specs.Inside.{huc_number}
use Rattle.firmware.specs.Version.{css_reading, huc_reading, of_version, reading}
use Rattle.firmware.proofs.Lies.{cpd_lies, located-code, located-ends}
use Rattle.firmware.proofs.Inner.{found-bytes}
use Rattle.firmware.proofs.version.huc_version.Goals as goal

pub returns-in_err-f : goal.returns-in_err-f
unfolding huc_reading huc_number of_version reading
returns-in_err-f c =
    let p = err_from_is_err_and c.from_residual.result c.from_residual.ensures.1 in
    rw (p.1, p.2) (simp (located-code _ _ _ c.in_err-f.ensures, number-not-0))

pub part_of-requires : goal.part_of-requires
part_of-requires c = located-ends _ _ (cpd_lies _ _) _ _ c.in_ok-f.ensures

pub returns : goal.returns
unfolding huc_reading huc_number css_reading
returns c =
    let found = c.in_ok-f.ensures in
    simp (located-code _ _ _ found) (rw (c.part_of.ensures.same_bytes, found-bytes _ _ found) at c.css_version.ensures)
