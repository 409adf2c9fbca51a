-- `messages::take_first` meets its contract: three dwords are judged, and those and the others are the message. Assumes
-- nothing.
use Prim.Native.Nat.{ℕ, ◌-◌, ◌≤◌}
use mathlib.Core.Path.{◌≡◌, ap, ◌∙◌}
use mathlib.Core.List.{List, ◌∷◌, ◌++◌}
use native.Mathlib.Omega.{arith}
use lib.ListN.{length, take, drop, length-take, length-drop}
use lib.Seq.{length-take-le}
use Rattle.record.specs.Runs.{judged, whole}
use Rattle.record.specs.Calls.{at_front}
use Rattle.record.proofs.Slices.{three_and_rest}
use Rattle.record.proofs.Judged.{whole_sizes}
use Rattle.record.proofs.messages.take_first.Goals as goal
use Rattle.record.proofs.messages.take_first.Goals.{In_ok-end}

-- what was judged is the run's first message
by_run : (c : In_ok-end) → whole c.in_ok-end.end ≡ judged c.args.run.now
by_run c = c.in_ok-end.ensures ∙ rw c.first-head.ensures

-- .. and that many dwords are there
sizes : (c : In_ok-end) → let n = c.in_ok-end.end in (3 ≤ n) × (n ≤ length c.args.run.now) × (n ≤ 258)
sizes c = whole_sizes c.args.run.now c.in_ok-end.end (by_run c)

pub slice_bounds-put_entry-count : goal.slice_bounds-put_entry-count
slice_bounds-put_entry-count c = omega (arith, sizes (goal.at.slice_bounds-put_entry-count c).In_ok-end)

pub slice_bounds-put_entry-start : goal.slice_bounds-put_entry-start
slice_bounds-put_entry-start c = omega (arith, sizes (goal.at.slice_bounds-put_entry-start c).In_ok-end)

pub slice_bounds-put_entry-end : goal.slice_bounds-put_entry-end
slice_bounds-put_entry-end c = omega (arith, sizes (goal.at.slice_bounds-put_entry-end c).In_ok-end)

pub put_entry-requires-clause-room : goal.put_entry-requires-clause-room
put_entry-requires-clause-room c =
    let s = sizes (goal.at.put_entry-requires-clause-room c).In_ok-end in
    simp (length-take, length-drop) (omega (arith, c.requires))

pub returns : goal.returns
returns c =
    let ok = (goal.at.returns c).In_ok-end in
    let copy = c.args.copy.now in
    let run = c.args.run.now in
    let n = c.in_ok-end.end in
    let s = sizes ok in
    let h = c.first-head in
    let e : h.result.direction ∷ h.result.len ∷ h.result.header ∷ take (n - 3) (drop 3 run) ≡ take n run =
    rw h.ensures (three_and_rest run n (omega arith) (omega arith)) in
    let k : length (take n run) ≡ n = length-take-le n run (omega arith) in
    record {
      answer = by_run ok;
      dwords =
          λ z.
          c.put_entry.ensures
          ∙ (ap (λ (xs : List ℕ). at_front xs copy) e
          ∙ ap (λ i. take n run ++ drop i copy) k);
    }
