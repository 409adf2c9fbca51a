-- `writing::put_messages` meets its contract: after some turns the messages in front of a place are whole, and their
-- bytes in front of what was there. Assumes nothing.
use Prim.Native.Nat.{ℕ, ◌+◌, ◌-◌, ◌≤◌, ◌<◌}
use mathlib.Core.Path.{◌≡◌, refl, sym, ap, ◌∙◌}
use mathlib.Core.List.{List, ◌++◌, flat_map}
use native.Mathlib.Omega.{arith}
use lib.ListN.{length, take, drop, length-drop}
use lib.Seq.{take_at, length-take-le}
use borrow.Author.Tests.{leb-true, leb-false}
use borrow.Rule.Slice.PartMut.{put_mid, same_len_mid}
use Rattle.message.proofs.Slices.{to_end}
use Rattle.record.specs.Numbers.{bytes_of_run}
use Rattle.record.proofs.Slices.{filled_front, blank-length}
use Rattle.record.proofs.Writes.{gone_none, step_sizes, step_gone, step_further, step_torn, bytes_next}
use Rattle.record.proofs.Writes.{size-next, room_next, put_torn, put_full}
use Rattle.record.proofs.writing.put_messages.Goals as goal
use Rattle.record.proofs.writing.put_messages.Goals.{In-Ok, Else-not-has_bytes}

-- how many dwords the message here takes
sizes :
    (c : In-Ok)
    → let n = c.in-Ok.dwords in
    (3 ≤ n) × (c.loop-at.at + n ≤ length c.args.run.now) × (n ≤ 258) × (length c.take_first.new.copy ≡ 258)
sizes c =
    let s = step_sizes c.args.run.now _ _ c.in-Ok.ensures.answer c.loop-at.invariant.0 in
    (s.0, s.1, s.2, c.take_first.auto.copy ∙ c.loop-at.invariant.2)

-- .. in the copy
copied :
    (c : In-Ok)
    → let n = c.in-Ok.dwords in
    take (n - 0) c.take_first.new.copy ≡ take n (drop c.loop-at.at c.args.run.now)
copied c =
    let l = c.loop-at in
    let run = c.args.run.now in
    let n = c.in-Ok.dwords in
    let s = sizes c in
    let e : n - 0 ≡ n = omega arith in
    let part = take n (drop l.at run) in
    let m : length part ≡ n = length-take-le n (drop l.at run) (simp length-drop (omega arith)) in
    rw (e, c.in-Ok.ensures.dwords refl, to_end) (take_at part (drop n l.copy) n m)

-- the copy's bytes are the message's
same_bytes :
    (c : In-Ok)
    → let n = c.in-Ok.dwords in
    length (bytes_of_run (take (n - 0) c.take_first.new.copy))
    ≡ length (bytes_of_run (take n (drop c.loop-at.at c.args.run.now)))
same_bytes c = ap (λ (r : List ℕ). length (bytes_of_run r)) (copied c)

-- there is room for the message
fits :
    (c : Else-not-has_bytes)
    → length (bytes_of_run (take (c.in-Ok.dwords - 0) c.take_first.new.copy)) ≤ length c.loop-at.out - c.loop-at.filled
fits c = leb-true _ _ (sym c.has_bytes.ensures ∙ c.if-not-has_bytes.false)

pub loop-at-init : goal.loop-at-init
unfolding flat_map
loop-at-init c = (
  omega arith,
  refl,
  ap length c.no_entry-copy.ensures ∙ blank-length,
  omega arith,
  gone_none c.args.run.now,
  refl,
  refl,
)

pub returns-in-Err : goal.returns-in-Err
returns-in-Err c =
    let l = c.loop-at in
    let run = c.args.run.now in
    let torn = step_torn run l.at _ _ c.in-Err.ensures.answer l.invariant.4 (omega arith) in
    put_torn run l.out c.args.out.now l.at l.filled l.invariant.4 l.invariant.5 l.invariant.6 _ (sym torn.0)

pub slice_bounds-has_bytes-end : goal.slice_bounds-has_bytes-end
slice_bounds-has_bytes-end c = omega (arith, sizes (goal.at.slice_bounds-has_bytes-end c).In-Ok)

pub returns-then-not-has_bytes : goal.returns-then-not-has_bytes
returns-then-not-has_bytes c =
    let l = c.loop-at in
    let run = c.args.run.now in
    let more = room_next run l.at c.in-Ok.dwords in
    let xs = bytes_of_run (take (c.in-Ok.dwords - 0) c.take_first.new.copy) in
    let short : length l.out - l.filled < length xs = leb-false _ _ (sym c.has_bytes.ensures ∙ c.if-not-has_bytes.true) in
    let same = same_bytes (goal.at.returns-then-not-has_bytes c).In-Ok in
    let further = step_further run l.at _ c.in-Ok.ensures.answer l.invariant.0 l.invariant.4 in
    put_full run l.out c.args.out.now l.at l.filled l.invariant.4 l.invariant.5 l.invariant.6 further
    (λ room. omega (arith, l.invariant.1, l.invariant.5, same, short, more, room))

pub loop-at-smaller : goal.loop-at-smaller
loop-at-smaller c = omega (arith, sizes (goal.at.loop-at-smaller c).In-Ok)

pub loop-at-preserved : goal.loop-at-preserved
loop-at-preserved c =
    let ok = (goal.at.loop-at-preserved c).In-Ok in
    let l = c.loop-at in
    let run = c.args.run.now in
    let out₀ = c.args.out.now in
    let n = c.in-Ok.dwords in
    let k = length l.out - l.filled in
    let put = c.put_run-filled in
    let s = sizes ok in
    let room = fits (goal.at.loop-at-preserved c).Else-not-has_bytes in
    let done = bytes_of_run (take l.at run) in
    let xs = bytes_of_run (take (n - 0) c.take_first.new.copy) in
    let same = same_len_mid l.filled k l.out put.new.out put.auto.out in
    let out : put_mid l.filled k l.out put.new.out ≡ (done ++ xs) ++ drop (l.filled + length xs) out₀ =
    rw put.ensures.1 (filled_front l.out out₀ done xs l.filled l.invariant.6 l.invariant.5 k room (omega arith)) in
    let bytes : done ++ xs ≡ bytes_of_run (take (l.at + n) run) =
    ap (λ (x : List ℕ). done ++ bytes_of_run x) (copied ok) ∙ sym (bytes_next run l.at n) in (
      s.1,
      same ∙ l.invariant.1,
      s.3,
      rw same (omega (arith, room, put.ensures.0)),
      step_gone run l.at _ c.in-Ok.ensures.answer l.invariant.4,
      omega (arith, l.invariant.5, put.ensures.0, same_bytes ok, size-next run l.at n),
      out ∙ rw (bytes, put.ensures.0),
    )
