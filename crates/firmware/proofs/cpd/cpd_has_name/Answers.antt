-- `cpd::cpd_has_name` meets its contract. Assumes nothing.
use mathlib.Core.Path.{refl, ◌∙◌}
use borrow.Author.Tests.{le-ltb}
use native.Mathlib.Omega.{arith}
use Rattle.firmware.proofs.Lies.{table-room}
use Rattle.firmware.proofs.Read.{has_key, has_no_name, has_none}
use Rattle.firmware.proofs.cpd.cpd_has_name.Goals as goal

pub returns-in_default : goal.returns-in_default
returns-in_default c = has_no_name _ _ _ c.in_default.ensures.0

pub returns-in_default-read_table : goal.returns-in_default-read_table
returns-in_default-read_table c =
    has_none _ _ c.in-Ok.ensures.0 c.in_default-read_table.ensures _ (omega arith)

pub overflow_mul-i : goal.overflow_mul-i
overflow_mul-i c = let l = table-room _ c.in-Ok-read_table.ensures in omega arith

pub overflow_add-t : goal.overflow_add-t
overflow_add-t c = let l = table-room _ c.in-Ok-read_table.ensures in omega arith

pub has_key-requires : goal.has_key-requires
has_key-requires c = let l = table-room _ c.in-Ok-read_table.ensures in omega arith

pub returns-then-i-t : goal.returns-then-i-t
returns-then-i-t c =
    has_key _ _ c.in-Ok.ensures.0 c.in-Ok-read_table.ensures _ refl c.if-i-t.true _ c.in-Ok.ensures.1 c.has_key.ensures

pub returns-else-i-t : goal.returns-else-i-t
returns-else-i-t c =
    le-ltb _ _ c.if-i-t.false ∙ has_none _ _ c.in-Ok.ensures.0 c.in-Ok-read_table.ensures _ c.if-i-t.false
