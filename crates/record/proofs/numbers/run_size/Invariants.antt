-- `numbers::run_size` meets its contract: after some turns it has the bytes of the dwords so far. Assumes nothing.
use Prim.Native.Nat.{◌*◌, ◌≤◌}
use mathlib.Core.Path.{◌≡◌}
use lib.ListN.{length, take}
use Rattle.record.specs.Numbers.{bytes_of_run}
use Rattle.record.proofs.numbers.run_size.Given as goal

abbrev pub invariant-loop-dword : goal.invariant-loop-dword
invariant-loop-dword l =
    (l.size ≤ 5 * l.dword-index) × (l.size ≡ length (bytes_of_run (take l.dword-index l.run)))
