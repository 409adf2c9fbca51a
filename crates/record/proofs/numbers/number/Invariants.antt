-- `numbers::number` meets its contract: after some turns the number is that of the groups from here on, with those that
-- were read carried. Assumes nothing.
use Prim.Native.Nat.{◌-◌, ◌^◌, ◌≤◌, ◌<◌}
use mathlib.Core.Path.{◌≡◌}
use lib.ListN.{length, drop}
use Rattle.record.specs.Numbers.{number_of, form_of}
use Rattle.record.specs.Private.{carried}
use Rattle.record.proofs.numbers.number.Given as goal

abbrev pub invariant-loop-size : goal.invariant-loop-size
invariant-loop-size l =
    (1 ≤ length l.bytes) × (l.size ≤ 4) × (l.weight ≡ 128 ^ l.size) × (l.value < l.weight)
    × (number_of l.bytes ≡ carried l.value l.weight l.size (form_of (4 - l.size) (drop l.size l.bytes)))

abbrev pub decreases-loop-size : goal.decreases-loop-size
decreases-loop-size l = 4 - l.size
