-- `cpd::cpd_name` meets its contract. Assumes nothing.
use native.Mathlib.Omega.{arith}
use Rattle.firmware.proofs.Lies.{table-room}
use Rattle.firmware.proofs.Read.{name-none, name-there}
use borrow.Author.Rules.{rules}
use Rattle.firmware.proofs.cpd.cpd_name.Goals as goal

pub returns-in_default : goal.returns-in_default
returns-in_default c = rw (name-none _ c.args.i c.in_default.ensures (omega arith)) (search rules)

pub returns-then-t-i : goal.returns-then-t-i
returns-then-t-i c = rw (name-none _ _ c.in-Ok.ensures c.if-t-i.true) (search rules)

pub overflow_mul-from : goal.overflow_mul-from
overflow_mul-from c = let l = table-room _ c.in-Ok.ensures in omega arith

pub overflow_add-from : goal.overflow_add-from
overflow_add-from c = let l = table-room _ c.in-Ok.ensures in omega arith

pub overflow_add-result : goal.overflow_add-result
overflow_add-result c = let l = table-room _ c.in-Ok.ensures in omega arith

pub slice_bounds-result-end-2 : goal.slice_bounds-result-end-2
slice_bounds-result-end-2 c = let l = table-room _ c.in-Ok.ensures in omega arith

pub returns : goal.returns
returns c = rw (name-there _ _ c.in-Ok.ensures c.if-t-i.false) (search rules)
