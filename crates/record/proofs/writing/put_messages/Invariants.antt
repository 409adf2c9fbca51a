-- `writing::put_messages` meets its contract: after some turns the messages in front of a place are whole, and their
-- bytes in front of what was there. Assumes nothing.
use Prim.Native.Nat.{◌-◌, ◌≤◌}
use mathlib.Core.Path.{◌≡◌}
use mathlib.Core.List.{◌++◌}
use lib.ListN.{length, take, drop}
use Rattle.record.specs.Numbers.{bytes_of_run}
use Rattle.record.proofs.Writes.{Gone}
use Rattle.record.proofs.writing.put_messages.Given as goal

abbrev pub invariant-loop-at : goal.invariant-loop-at
invariant-loop-at l =
    (l.at ≤ length l.run) × (length l.out ≡ length l.initial.out) × (length l.copy ≡ 258) × (l.filled ≤ length l.out) × Gone l.run l.at
    × (l.filled ≡ length (bytes_of_run (take l.at l.run))) × (l.out ≡ bytes_of_run (take l.at l.run) ++ drop l.filled l.initial.out)

abbrev pub decreases-loop-at : goal.decreases-loop-at
decreases-loop-at l = length l.run - l.at
