-- `clear`: so far the first records are free, and the rest are as they were. Assumes nothing.
use Rattle.std.proofs.Common.{◌-◌, ◌≡◌, ◌++◌, ◌≤◌, drop, replicate}
use Rattle.requests.specs.Table.{free_record}
use Rattle.wall.proofs.clear.Given as goal

abbrev pub invariant-loop-freed : goal.invariant-loop-freed
invariant-loop-freed l =
    (l.freed ≤ l.m) × (l.t ≡ replicate l.freed free_record ++ drop l.freed l.initial.t)

abbrev pub decreases-loop-freed : goal.decreases-loop-freed
decreases-loop-freed l = l.m - l.freed
