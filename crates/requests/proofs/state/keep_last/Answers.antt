-- `state::keep_last` meets its contract: the first word is written, the second stays. Assumes nothing.
use native.Mathlib.Omega.{arith}
use lib.Seq.{get_or-set_same, get_or-set_other}
use borrow.Author.Tests.{ne_eqb, eq-eqb}
use Rattle.requests.specs.Plan.{last_kept}
use Rattle.requests.proofs.state.keep_last.Goals as goal

pub returns-then-was-last : goal.returns-then-was-last
unfolding last_kept
returns-then-was-last c =
    let a = c.args in
    simp (
      ne_eqb a.was a.last c.if-was-last.true,
      get_or-set_same a.wall.now 0 a.last 0 (omega arith),
      get_or-set_other a.wall.now 0 1 a.last 0 (omega arith),
    )

pub returns-else-was-last : goal.returns-else-was-last
unfolding last_kept
returns-else-was-last c = let a = c.args in simp (eq-eqb a.was a.last c.if-was-last.false)
