-- `writing::measure` meets its contract: after some turns the messages in front of a place are whole, and their bytes
-- counted. Assumes nothing.
use Prim.Native.Nat.{◌-◌, ◌*◌, ◌≤◌}
use mathlib.Core.Path.{◌≡◌}
use lib.ListN.{length, take}
use Rattle.record.specs.Numbers.{bytes_of_run}
use Rattle.record.proofs.Writes.{Gone}
use Rattle.record.proofs.writing.measure.Given as goal

abbrev pub invariant-loop-at : goal.invariant-loop-at
invariant-loop-at l =
    (l.at ≤ length l.run) × (l.size ≤ 5 * l.at) × (l.size ≡ length (bytes_of_run (take l.at l.run))) × Gone l.run l.at

abbrev pub decreases-loop-at : goal.decreases-loop-at
decreases-loop-at l = length l.run - l.at
