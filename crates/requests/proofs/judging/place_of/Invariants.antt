-- `judging::place_of` meets its contract: after i turns the place is i and the place in the words from i on. Assumes
-- nothing.
use Prim.Native.Nat.{◌+◌, ◌-◌, ◌≤◌}
use mathlib.Core.Path.{◌≡◌}
use lib.ListN.{length, drop}
use Rattle.requests.specs.Table.{place_of}
use Rattle.requests.specs.Words.{records}
use Rattle.requests.proofs.judging.place_of.Given as goal

abbrev pub invariant-loop-i : goal.invariant-loop-i
invariant-loop-i l =
    (l.i ≤ length l.words) × (place_of l.fence (records l.words) ≡ l.i + place_of l.fence (records (drop l.i l.words)))

abbrev pub decreases-loop-i : goal.decreases-loop-i
decreases-loop-i l = length l.words - l.i
