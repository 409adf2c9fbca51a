-- `cpd::walk` meets its contract: the first entry that agrees is not before the one that the walk has come to. Assumes
-- nothing.
use Prim.Native.Nat.{◌≤◌, ◌-◌, ◌+◌, ◌*◌}
use mathlib.Core.Path.{◌≡◌}
use mathlib.Core.Bool.{true}
use lib.ListN.{get_or}
use lib.Dec.{eqb}
use Rattle.firmware.specs.Cpd
use Rattle.firmware.specs.Private.{walked}
use Rattle.firmware.proofs.cpd.walk.Given as goal

-- the name bytes seen agree
abbrev pub invariant-loop-j : goal.invariant-loop-j
invariant-loop-j l =
    (l.i ≡ l.initial.i) × (8 ≤ l.j) × (l.j ≤ 12) × (Cpd.all (λ k. eqb (get_or l.blob (l.at + k) 0) (get_or l.key k 0)) l.j ≡ true)

abbrev pub decreases-loop-j : goal.decreases-loop-j
decreases-loop-j l = 12 - l.j

-- the entry that is sought is the first from here on
abbrev pub invariant-entries : goal.invariant-entries
invariant-entries l =
    walked l.blob l.key l.start l.count l.from ≡ Cpd.first_from (λ k. Cpd.agrees l.blob l.key (l.start + 24 * k)) l.i (l.count - l.i)

abbrev pub decreases-entries : goal.decreases-entries
decreases-entries l = l.count - l.i
