-- `numbers::put_run` meets its contract: after some turns the bytes of the dwords so far are in front of what was there. Assumes
-- nothing.
use Prim.Native.Nat.{◌≤◌}
use mathlib.Core.Path.{◌≡◌}
use mathlib.Core.List.{◌++◌}
use lib.ListN.{length, take, drop}
use Rattle.record.specs.Numbers.{bytes_of_run}
use Rattle.record.proofs.numbers.put_run.Given as goal

abbrev pub invariant-loop-dword : goal.invariant-loop-dword
invariant-loop-dword l =
    (length l.out ≡ length l.initial.out) × (length (bytes_of_run l.run) ≤ length l.initial.out) × (l.at ≤ length l.out)
    × (l.at ≡ length (bytes_of_run (take l.dword-index l.run)))
    × (l.out ≡ bytes_of_run (take l.dword-index l.run) ++ drop l.at l.initial.out)
