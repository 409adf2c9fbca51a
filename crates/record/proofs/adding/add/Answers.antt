-- `adding::add` meets its contract: the message is judged, then there is room or not. Assumes nothing.
use Prim.Native.Nat.{suc, ◌+◌, ◌≤◌}
use mathlib.Core.Path.{◌≡◌, refl, ◌∙◌}
use native.Mathlib.Omega.{arith}
use lib.ListN.{length, length-take, length-drop}
use Rattle.record.specs.Runs.{judged}
use Rattle.record.specs.Calls.{entry_of}
use Rattle.record.proofs.Adds.{bad_added, good_length, full_added, added}
use Rattle.record.proofs.Figures.{figure-not-0}
use Rattle.record.proofs.Judged.{added_bad}
use Rattle.record.proofs.adding.add.Goals as goal
use Rattle.record.proofs.adding.add.Goals.{In_ok-judge_added}

pub returns-in_err-judge_added : goal.returns-in_err-judge_added
returns-in_err-judge_added c =
    let a = c.args in
    let m = a.msg.now in
    let two : 2 + length m ≡ suc (suc (length m)) = omega arith in
    let b =
    bad_added a.run.now m a.place a.direction _ (c.in_err-judge_added.ensures ∙ rw (c.dword_at.ensures, two))
    (figure-not-0 _) in
    (added_bad _ _ a.place c.from_residual.ensures.1 ∙ b.0, b.1)

-- what was judged is the message as the run would have it
by_entry : (c : In_ok-judge_added) → 0 ≡ (judged (entry_of c.args.direction c.args.msg.now)).fault
by_entry c =
    let m = c.args.msg.now in
    let two : 2 + length m ≡ suc (suc (length m)) = omega arith in
    c.in_ok-judge_added.ensures ∙ rw (c.dword_at.ensures, two)

-- .. which has dwords, and few
sizes : (c : In_ok-judge_added) → let n = length c.args.msg.now in (1 ≤ n) × (n ≤ 256)
sizes c = good_length c.args.run.now c.args.msg.now c.args.place c.args.direction 0 (by_entry c) refl

pub returns-then-run-place : goal.returns-then-run-place
returns-then-run-place c =
    let e = by_entry (goal.at.returns-then-run-place c).In_ok-judge_added in
    full_added c.args.run.now c.args.msg.now c.args.place c.args.direction 0 e refl (omega arith)

pub returns-then-run-place-2 : goal.returns-then-run-place-2
returns-then-run-place-2 c =
    let e = by_entry (goal.at.returns-then-run-place-2 c).In_ok-judge_added in
    full_added c.args.run.now c.args.msg.now c.args.place c.args.direction 0 e refl (omega arith)

pub put_entry-requires : goal.put_entry-requires
put_entry-requires c =
    let s = sizes (goal.at.put_entry-requires c).In_ok-judge_added in
    record { room = simp (length-take, length-drop) (omega arith); len = omega arith }

pub returns : goal.returns
returns c =
    let a = c.args in
    let e = by_entry (goal.at.returns c).In_ok-judge_added in
    let room : a.place + (2 + length a.msg.now) ≤ length a.run.now =
    omega (arith, c.if-run-place-2.false, c.if-run-place.false) in
    added a.run.now a.msg.now a.place a.direction 0 e refl
    c.dword_at.result c.put_entry.new.dst room c.dword_at.ensures c.put_entry.ensures

pub slice_bounds-put_entry-count-2 : goal.slice_bounds-put_entry-count-2
slice_bounds-put_entry-count-2 c = omega (arith, sizes (goal.at.slice_bounds-put_entry-count-2 c).In_ok-judge_added)

pub slice_bounds-put_entry-start-2 : goal.slice_bounds-put_entry-start-2
slice_bounds-put_entry-start-2 c = omega (arith, sizes (goal.at.slice_bounds-put_entry-start-2 c).In_ok-judge_added)
