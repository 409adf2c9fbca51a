-- `numbers::put_number` meets its contract: after some turns the bytes are those in the output, and then the groups of
-- what is left. Assumes nothing.
use Prim.Native.Nat.{◌-◌, ◌≤◌, ◌<◌}
use mathlib.Core.Path.{◌≡◌}
use mathlib.Core.List.{◌++◌}
use lib.ListN.{length, take, drop}
use Rattle.record.specs.Numbers.{groups, bytes_of}
use Rattle.record.proofs.Putting.{top}
use Rattle.record.proofs.numbers.put_number.Given as goal

abbrev pub invariant-loop-rest : goal.invariant-loop-rest
invariant-loop-rest l =
    (l.at ≤ 4) × (l.rest < top l.at) × (length l.out ≡ length l.initial.out) × (l.at < length l.out) × (drop l.at l.out ≡ drop l.at l.initial.out)
    × (bytes_of l.value ≡ take l.at l.out ++ groups (4 - l.at) l.rest)

abbrev pub decreases-loop-rest : goal.decreases-loop-rest
decreases-loop-rest l = l.rest
