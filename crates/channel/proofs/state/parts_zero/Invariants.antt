-- `state::parts_zero` meets its contract: after k turns each join is 0 just where the first 2k dwords of its part are.
-- Assumes nothing.
use Prim.Native.Nat.{◌*◌, ◌≤◌}
use mathlib.Core.Path.{◌≡◌}
use lib.Dec.{eqb}
use lib.ListN.{take}
use Rattle.channel.specs.State.{all_zero}
use Rattle.channel.proofs.state.parts_zero.Given as goal

abbrev pub invariant-loop-k : goal.invariant-loop-k
invariant-loop-k l =
    (l.k ≤ l.pairs)
    × (eqb l.a 0 ≡ all_zero (take (2 * l.k) l.p))
    × (eqb l.b 0 ≡ all_zero (take (2 * l.k) l.q))
    × (eqb l.c 0 ≡ all_zero (take (2 * l.k) l.r))
    × (eqb l.d 0 ≡ all_zero (take (2 * l.k) l.t))
