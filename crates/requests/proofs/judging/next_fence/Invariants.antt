-- `judging::next_fence` meets its contract: after so many tries the next fence is the first closed one of those that
-- are left. Assumes nothing.
use Prim.Native.Nat.{◌-◌, ◌≤◌}
use mathlib.Core.Path.{◌≡◌}
use Rattle.requests.specs.Fence.{first_closed, next_fence}
use Rattle.requests.specs.Table.{still_open}
use Rattle.requests.specs.Words.{records}
use Rattle.requests.proofs.judging.next_fence.Given as goal

abbrev pub invariant-loop-tries : goal.invariant-loop-tries
invariant-loop-tries l =
    (l.tries ≤ 65536)
    × (first_closed (65536 - l.tries) (still_open (records l.words)) l.fence ≡ next_fence (still_open (records l.words)) l.last)

abbrev pub decreases-loop-tries : goal.decreases-loop-tries
decreases-loop-tries l = 65536 - l.tries
