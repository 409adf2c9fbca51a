-- `judging::set_aside` meets its contract: after so many turns the sum is that of as many records, each below 65,536.
-- Assumes nothing.
use Prim.Native.Nat.{◌+◌, ◌-◌, ◌*◌, ◌≤◌}
use mathlib.Core.Path.{◌≡◌}
use lib.ListN.{length, drop}
use Rattle.requests.specs.Table.{set_aside}
use Rattle.requests.specs.Words.{records_with}
use Rattle.requests.proofs.judging.set_aside.Given as goal

abbrev pub invariant-loop-counted : goal.invariant-loop-counted
invariant-loop-counted l =
    (l.counted ≤ length l.words) × (l.sum ≤ l.counted * 65535)
    × (l.sum + set_aside (records_with (drop l.counted l.words) (drop l.counted l.rooms)) ≡ set_aside (records_with l.words l.rooms))

abbrev pub decreases-loop-counted : goal.decreases-loop-counted
decreases-loop-counted l = length l.words - l.counted
