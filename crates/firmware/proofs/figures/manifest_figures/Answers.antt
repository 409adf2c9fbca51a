-- `figures::manifest_figures` meets its contract. Assumes nothing.
use mathlib.Core.Path.{refl, ◌∙◌}
use Rattle.refusal.proofs.NotZero.{number-not-0}
use Rattle.firmware.proofs.Measured.{manifest_refused, manifest_measured}
use Rattle.firmware.proofs.figures.manifest_figures.Goals as goal

pub returns-in-Err : goal.returns-in-Err
returns-in-Err c = c.unmeasured.ensures ∙ manifest_refused _ c.in-Err.ensures (number-not-0 _)

pub returns-in-Ok : goal.returns-in-Ok
returns-in-Ok c = c.measured.ensures ∙ manifest_measured _ c.in-Ok.ensures refl
