-- `writing::measure` meets its contract: after some turns the messages in front of a place are whole, and their bytes
-- counted. Assumes nothing.
use Prim.Native.Nat.{ℕ, ◌+◌, ◌-◌, ◌*◌, ◌≤◌}
use mathlib.Core.Path.{◌≡◌, refl, sym, ap, ◌∙◌}
use mathlib.Core.List.{List, flat_map}
use native.Mathlib.Omega.{arith}
use lib.ListN.{length, take, drop, length-take, length-drop}
use Rattle.record.specs.Numbers.{bytes_of_run}
use Rattle.record.proofs.Writes.{gone_none, gone_all, all-taken, step_sizes, step_gone, step_torn, size-next, part_bytes}
use Rattle.record.proofs.writing.measure.Goals as goal
use Rattle.record.proofs.writing.measure.Goals.{After-run_size-size}

pub loop-at-init : goal.loop-at-init
unfolding flat_map
loop-at-init c = (omega arith, omega arith, refl, gone_none c.args.run.now)

pub returns-in-Err : goal.returns-in-Err
returns-in-Err c =
    let l = c.loop-at in
    step_torn c.args.run.now l.at _ _ c.in-Err.ensures l.invariant.3 (omega arith)

pub overflow_add-end : goal.overflow_add-end
overflow_add-end c = omega (arith, step_sizes c.args.run.now _ _ c.in-Ok.ensures c.loop-at.invariant.0)

pub slice_bounds-run_size-end : goal.slice_bounds-run_size-end
slice_bounds-run_size-end c = omega (arith, step_sizes c.args.run.now _ _ c.in-Ok.ensures c.loop-at.invariant.0)

pub run_size-size-requires : goal.run_size-size-requires
run_size-size-requires c =
    let s = step_sizes c.args.run.now _ _ c.in-Ok.ensures c.loop-at.invariant.0 in
    simp (length-take, length-drop) (omega arith)

-- the bytes that were counted are the message's
counted :
    (c : After-run_size-size)
    → let n = c.in-Ok.dwords in
    let part = take n (drop c.loop-at.at c.args.run.now) in
    (c.run_size-size.result ≡ length (bytes_of_run part)) × (length (bytes_of_run part) ≤ 5 * n)
counted c =
    let at = c.loop-at.at in
    let n = c.in-Ok.dwords in
    let rest = drop at c.args.run.now in
    let s = step_sizes c.args.run.now at n c.in-Ok.ensures c.loop-at.invariant.0 in
    let e : at + n - at ≡ n = omega arith in
    let l : n ≤ length rest = simp length-drop (omega arith) in
    (c.run_size-size.ensures ∙ ap (λ k. length (bytes_of_run (take k rest))) e, part_bytes rest n l)

pub overflow_add-size : goal.overflow_add-size
overflow_add-size c =
    let s = step_sizes c.args.run.now _ _ c.in-Ok.ensures c.loop-at.invariant.0 in
    omega (arith, s, counted (goal.at.overflow_add-size c).After-run_size-size)

pub loop-at-smaller : goal.loop-at-smaller
loop-at-smaller c = omega (arith, step_sizes c.args.run.now _ _ c.in-Ok.ensures c.loop-at.invariant.0)

pub loop-at-preserved : goal.loop-at-preserved
loop-at-preserved c =
    let l = c.loop-at in
    let run = c.args.run.now in
    let s = step_sizes run l.at _ c.in-Ok.ensures l.invariant.0 in
    let b = counted (goal.at.loop-at-preserved c).After-run_size-size in
    let next = size-next run l.at c.in-Ok.dwords in
    (s.1, omega arith, omega (arith, l.invariant.2), step_gone run l.at _ c.in-Ok.ensures l.invariant.3)

pub returns : goal.returns
returns c =
    let l = c.loop-at in
    let run = c.args.run.now in
    let t = gone_all run l.at l.invariant.3 (omega arith) in
    (t.0, l.invariant.2 ∙ ap (λ (r : List ℕ). length (bytes_of_run r)) (all-taken run l.at t.0 (sym t.1)))
