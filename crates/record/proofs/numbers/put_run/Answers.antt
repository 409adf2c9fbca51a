-- `numbers::put_run` meets its contract: after some turns the bytes of the dwords so far are in front of what was there. Assumes
-- nothing.
use Prim.Native.Nat.{◌+◌, ◌-◌, ◌≤◌}
use mathlib.Core.Path.{◌≡◌, refl, ap, ◌∙◌}
use mathlib.Core.List.{◌++◌, flat_map}
use native.Mathlib.Omega.{arith}
use lib.ListN.{length, get_or, take, drop, length-append}
use borrow.Rule.Slice.PartMut.{mid_len}
use Rattle.record.specs.Numbers.{bytes_of, bytes_of_run}
use Rattle.record.proofs.Sizes.{bytes_more, room_for_next}
use Rattle.record.proofs.Slices.{filled_front, filled_length}
use Rattle.record.proofs.numbers.put_run.Goals as goal

pub loop-dword-init : goal.loop-dword-init
unfolding flat_map
loop-dword-init c = (refl, c.requires, omega arith, refl, refl)

pub put_number-at-requires : goal.put_number-at-requires
put_number-at-requires c =
    let l = c.loop-dword in
    let run = c.args.run.now in
    let n : length (take (length l.out - l.at) (drop l.at l.out)) ≡ length l.out - l.at =
    mid_len l.at (length l.out) l.out (omega arith) in
    rw n (omega (arith, room_for_next run l.dword-index (omega arith), l.invariant.0, l.invariant.1, l.invariant.3))

pub loop-dword-preserved : goal.loop-dword-preserved
loop-dword-preserved c =
    let l = c.loop-dword in
    let a = c.args in
    let run = a.run.now in
    let next = bytes_of (get_or run l.dword-index 0) in
    let room = room_for_next run l.dword-index (omega arith) in
    let put = c.put_number-at.ensures in
    let more = bytes_more run l.dword-index (omega arith) in
    let size : l.at + c.put_number-at.result ≡ length (bytes_of_run (take (l.dword-index + 1) run)) =
    rw (put.0, more, length-append (bytes_of_run (take l.dword-index run)) next) (omega (arith, l.invariant.3)) in
    let out =
    filled_front l.out a.out.now (bytes_of_run (take l.dword-index run)) next l.at l.invariant.4 l.invariant.3
    (length l.out - l.at) (omega (arith, room, l.invariant.0, l.invariant.1, l.invariant.3)) (omega arith) in
    let room' : length (bytes_of_run (take l.dword-index run)) + length next ≤ length a.out.now = omega (arith, room, l.invariant.1) in
    let same : length (bytes_of_run (take l.dword-index run) ++ next ++ drop (l.at + length next) a.out.now) ≡ length a.out.now =
    rw l.invariant.3 (filled_length a.out.now (bytes_of_run (take l.dword-index run)) next room') in (
      rw put.1 (ap length out ∙ same),
      l.invariant.1,
      rw (put.1, put.0) (rw (ap length out ∙ same) (omega (arith, room', l.invariant.3))),
      size,
      rw (put.1, put.0, more) out,
    )
