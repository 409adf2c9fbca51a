-- `parts::guc_cpd_copy` meets its contract. Assumes nothing.
use mathlib.Core.Path.{sym}
use mathlib.Core.Bool.{false}
use Rattle.firmware.proofs.Lies.{cpd_lies, located-code, located-truncated, located-ends, located-span}
use Rattle.guc.specs.Parts.{cpd_copy}
use Rattle.guc.proofs.parts.guc_cpd_copy.Goals as goal

pub copy_part-requires : goal.copy_part-requires
copy_part-requires c = located-ends _ _ (cpd_lies _ _) _ _ c.cpd_located.ensures

pub returns : goal.returns
unfolding cpd_copy
returns c =
    let found = c.cpd_located.ensures in
    let none = sym (located-truncated _ false _ found) in
    rw (located-code _ _ _ found, ← located-span _ _ (cpd_lies _ _) _ _ found) (rw none at c.copy_part.ensures)
