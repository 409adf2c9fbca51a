-- `judging::fence_twice` meets its contract: of the words passed no fence is open twice, and each open one has its
-- flag. Assumes nothing.
use Prim.Native.Nat.{◌-◌, ◌≤◌}
use lib.ListN.{length, take}
use Rattle.requests.specs.Words.{records}
use Rattle.requests.proofs.Marks.{Passed}
use Rattle.requests.proofs.judging.fence_twice.Given as goal

abbrev pub invariant-loop-i : goal.invariant-loop-i
invariant-loop-i l = (l.i ≤ length l.words) × Passed (records (take l.i l.words)) l.flags

abbrev pub decreases-loop-i : goal.decreases-loop-i
decreases-loop-i l = length l.words - l.i
