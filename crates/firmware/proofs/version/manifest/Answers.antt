-- `version::manifest` meets its contract. Assumes nothing.
use mathlib.Core.Path.{sym}
use Rattle.std.proofs.lemmas.Result.{err_from_is_err_and}
use Rattle.firmware.proofs.Lies.{cpd_lies, located-code, located-ends}
use Rattle.firmware.proofs.Inner.{found-bytes}
use Rattle.firmware.proofs.version.manifest.Goals as goal

pub returns-in_err-f : goal.returns-in_err-f
returns-in_err-f c =
    let p = err_from_is_err_and c.from_residual.result c.from_residual.ensures.1 in
    rw (p.1, p.2) (located-code _ _ _ c.in_err-f.ensures)

pub part_of-requires : goal.part_of-requires
part_of-requires c = located-ends _ _ (cpd_lies _ _) _ _ c.in_ok-f.ensures

pub returns : goal.returns
returns c =
    let found = c.in_ok-f.ensures in
    (located-code _ _ _ found, rw c.part_of.ensures.same_bytes (found-bytes _ _ found))
