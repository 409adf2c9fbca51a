-- `state::parts_zero` meets its contract: after k turns each join is 0 just where the first 2k dwords of its part are.
-- Assumes nothing.
use Prim.Native.Nat.{◌*◌}
use mathlib.Core.Path.{refl, ◌∙◌}
use native.Mathlib.Omega.{arith}
use lib.Seq.{take_all}
use Rattle.channel.specs.State.{all_zero}
use Rattle.channel.proofs.Zeros.{joins_zero, pair_more}
use Rattle.channel.proofs.state.parts_zero.Goals as goal

pub loop-k-init : goal.loop-k-init
unfolding all_zero
loop-k-init c = (omega arith, refl, refl, refl, refl)

pub loop-k-preserved : goal.loop-k-preserved
loop-k-preserved c =
    let l = c.loop-k in
    let a = c.args in (
      omega arith,
      rw c.pair_at-a.ensures (pair_more l.a a.p.now l.k (omega arith) l.invariant.1),
      rw c.pair_at-b.ensures (pair_more l.b a.q.now l.k (omega arith) l.invariant.2),
      rw c.pair_at-c.ensures (pair_more l.c a.r.now l.k (omega arith) l.invariant.3),
      rw c.pair_at-d.ensures (pair_more l.d a.t.now l.k (omega arith) l.invariant.4),
    )

pub returns : goal.returns
returns c =
    let l = c.loop-k in
    let a = c.args in
    joins_zero l.a l.b l.c l.d
    ∙ rw (
      l.invariant.1,
      l.invariant.2,
      l.invariant.3,
      l.invariant.4,
      take_all (2 * l.k) a.p.now (omega arith),
      take_all (2 * l.k) a.q.now (omega arith),
      take_all (2 * l.k) a.r.now (omega arith),
      take_all (2 * l.k) a.t.now (omega arith),
    )
