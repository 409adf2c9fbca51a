-- `figures::huc_figures` meets its contract. Assumes nothing.
use mathlib.Core.Path.{refl, ◌∙◌}
use Rattle.refusal.proofs.NotZero.{number-not-0}
use Rattle.firmware.proofs.Lies.{cpd_lies, located-ends}
use Rattle.firmware.proofs.Measured.{huc-refused, huc-measured}
use Rattle.firmware.proofs.figures.huc_figures.Goals as goal

pub part_of-requires : goal.part_of-requires
part_of-requires c = located-ends _ _ (cpd_lies _ _) _ _ c.in-Ok.ensures

pub returns-in-Err : goal.returns-in-Err
returns-in-Err c = c.unmeasured.ensures ∙ huc-refused _ c.in-Err.ensures (number-not-0 _)

pub returns-in-Ok : goal.returns-in-Ok
returns-in-Ok c = huc-measured _ c.in-Ok.ensures refl (rw c.part_of.ensures.same_bytes at c.css_figures.ensures)
