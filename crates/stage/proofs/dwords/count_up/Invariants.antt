-- After i turns the first i dwords are counted, and the next is the one to come.
use Rattle.std.proofs.Common.{◌≡◌, ◌-◌, ◌++◌, length, take, drop}
use Rattle.stage.specs.Dwords.{counting}
use Rattle.stage.proofs.dwords.count_up.Given as goal

abbrev pub invariant-loop-dword : goal.invariant-loop-dword
invariant-loop-dword l =
    (drop l.dword-index (counting l.first (length l.initial.s)) ≡ counting l.next (length l.initial.s - l.dword-index))
    × (l.s ≡ take l.dword-index (counting l.first (length l.initial.s)) ++ drop l.dword-index l.initial.s)
