-- `runs::store_runs` meets its contract: one straight run, or two. Assumes nothing.
use mathlib.Core.Path.{refl, ◌∙◌}
use mathlib.Core.List.{◌∷◌}
use native.Mathlib.Nat.{sub-zero}
use native.Mathlib.Omega.{arith}
use lib.ListN.{length-set, length-take}
use Rattle.runs.proofs.TwoRuns.{alone, stored-apart, stored_together}
use Rattle.runs.proofs.runs.store_runs.Goals as goal

-- all of it before the end of the buffer
pub returns-then-len-room : goal.returns-then-len-room
returns-then-len-room c =
    let a = c.args in
    c.store_judged.ensures ∙ alone a.buf.now a.at (a.header ∷ a.word ∷ a.rest.now) (omega arith)

pub store_opened-requires : goal.store_opened-requires
store_opened-requires c = simp length-set (omega arith)

pub shape_of-buf-then-room-eq1 : goal.shape_of-buf-then-room-eq1
shape_of-buf-then-room-eq1 c =
    let stored = c in
    let a = stored.args in
    stored.store_opened.auto.buf ∙ length-set a.buf.now a.at a.header

-- the end of the buffer falls between the first two
pub returns-then-room-eq1 : goal.returns-then-room-eq1
returns-then-room-eq1 c =
    let stored = c in
    let a = stored.args in
    stored-apart a.buf.now a.rest.now _ a.header a.word a.at stored.store_opened.ensures refl (omega arith)

pub store_judged-requires-2 : goal.store_judged-requires-2
store_judged-requires-2 c = simp length-take (omega arith)

-- two runs, the first of which has them both
pub returns : goal.returns
returns c =
    let first = c in
    let entry = first in
    let a = entry.args in
    let l = first.if-len-room.false in
    let one = first.if-room-eq1.false in
    let e = rw sub-zero at first.store_judged-2.ensures in
    let second = c.store_run.ensures in
    stored_together a.buf.now a.rest.now _ _ a.header a.word a.at second refl refl e entry.requires.0 l one
