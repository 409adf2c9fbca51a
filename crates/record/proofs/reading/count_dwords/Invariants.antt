-- `reading::count_dwords` meets its contract: it stands between two messages after each turn. Assumes nothing.
use Prim.Native.Nat.{◌-◌, ◌≤◌}
use mathlib.Core.Path.{◌≡◌}
use lib.ListN.{length}
use Rattle.record.proofs.Cursor as cursor
use Rattle.record.proofs.reading.count_dwords.Given as goal

abbrev pub invariant-loop-at : goal.invariant-loop-at
invariant-loop-at l = cursor.Cursor l.file l.at l.dwords × (l.at ≤ length l.file) × (l.dwords ≤ length l.file) × (length l.copy ≡ 258)

abbrev pub decreases-loop-at : goal.decreases-loop-at
decreases-loop-at l = length l.file - l.at
