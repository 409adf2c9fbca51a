-- `reading::lay` meets its contract: after each turn the whole messages before the place where it stands are in front of
-- what was there. Assumes nothing.
use Prim.Native.Nat.{◌-◌, ◌≤◌}
use mathlib.Core.Path.{◌≡◌}
use mathlib.Core.List.{◌++◌}
use lib.ListN.{length, take, drop}
use Rattle.record.specs.Files.{run_of}
use Rattle.record.proofs.Cursor as cursor
use Rattle.record.proofs.reading.lay.Given as goal

abbrev pub invariant-loop-at : goal.invariant-loop-at
invariant-loop-at l =
    cursor.Cursor l.file l.at l.filled × (l.at ≤ length l.file) × (l.filled ≤ length l.out) × (length l.copy ≡ 258)
    × (length l.out ≡ length l.initial.out) × (l.out ≡ take l.filled (run_of l.file) ++ drop l.filled l.initial.out)

abbrev pub decreases-loop-at : goal.decreases-loop-at
decreases-loop-at l = length l.file - l.at
