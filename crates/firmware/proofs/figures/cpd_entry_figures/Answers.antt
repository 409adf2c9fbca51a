-- `figures::cpd_entry_figures` meets its contract. Assumes nothing.
use mathlib.Core.Path.{refl, ◌∙◌}
use native.Mathlib.Omega.{arith}
use Rattle.refusal.proofs.NotZero.{number-not-0}
use Rattle.firmware.proofs.Lies.{table-room}
use Rattle.firmware.proofs.Measured.{entry-refused, entry-none, entry-measured}
use Rattle.firmware.proofs.figures.cpd_entry_figures.Goals as goal

pub returns-in-Err : goal.returns-in-Err
returns-in-Err c = c.of_table.ensures ∙ entry-refused _ c.in-Err.ensures _ (number-not-0 _)

pub returns-then-t-i : goal.returns-then-t-i
returns-then-t-i c = c.unmeasured.ensures ∙ entry-none _ c.in-Ok.ensures refl _ c.if-t-i.true

pub overflow_mul-i : goal.overflow_mul-i
overflow_mul-i c = let l = table-room _ c.in-Ok.ensures in omega arith

pub overflow_add-t : goal.overflow_add-t
overflow_add-t c = let l = table-room _ c.in-Ok.ensures in omega arith

pub extent_at-x-requires : goal.extent_at-x-requires
extent_at-x-requires c = let l = table-room _ c.in-Ok.ensures in omega arith

pub returns : goal.returns
returns c =
    let x = c.extent_at-x.ensures in
    c.measured.ensures ∙ entry-measured _ c.in-Ok.ensures refl _ c.if-t-i.false _ _ x.0 x.1
