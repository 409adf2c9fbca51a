-- `judging::lowest_free` meets its contract: after i turns the place is i and the place in the words from i on. Assumes
-- nothing.
use Prim.Native.Nat.{◌+◌, ◌-◌, ◌≤◌}
use mathlib.Core.Path.{◌≡◌}
use lib.ListN.{length, drop}
use Rattle.requests.specs.Table.{lowest_free}
use Rattle.requests.specs.Words.{records}
use Rattle.requests.proofs.judging.lowest_free.Given as goal

abbrev pub invariant-loop-place : goal.invariant-loop-place
invariant-loop-place l = (l.place ≤ length l.words) × (lowest_free (records l.words) ≡ l.place + lowest_free (records (drop l.place l.words)))

abbrev pub decreases-loop-place : goal.decreases-loop-place
decreases-loop-place l = length l.words - l.place
