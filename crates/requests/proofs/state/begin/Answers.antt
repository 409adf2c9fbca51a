-- `state::begin` meets its contract: the state has two words. Assumes nothing.
use Prim.Native.Nat.{◌<◌}
use mathlib.Core.Path.{◌≡◌, sym, ◌∙◌}
use mathlib.Core.Bool.{false}
use native.Mathlib.Omega.{arith}
use lib.Dec.{eqb}
use lib.ListN.{length, set, length-set}
use lib.Seq.{get_or-set_same, get_or-set_other}
use borrow.Author.Tests.{ne_eqb}
use Rattle.requests.specs.Calls.{fresh_number}
use Rattle.requests.specs.Plan.{fresh_state}
use Rattle.requests.proofs.Plans.{begun-small}
use Rattle.requests.proofs.state.begin.Goals as goal

pub returns-then-code-ne0 : goal.returns-then-code-ne0
unfolding fresh_state
returns-then-code-ne0 c =
    let e = c.fresh_number-code.ensures in
    let z : eqb (fresh_number c.args.records c.args.n) 0 ≡ false =
    rw e at (ne_eqb _ 0 c.if-code-ne0.true) in
    (e, simp z)

pub returns : goal.returns
unfolding fresh_state
returns c =
    let a = c.args in
    let e = sym c.fresh_number-code.ensures ∙ c.if-code-ne0.false in
    let w = a.wall.now in
    let l : 0 < length (set w 1 a.n) = rw (length-set w 1 a.n) (omega arith) in
    let first = get_or-set_same (set w 1 a.n) 0 65535 0 l in
    let second =
    get_or-set_other (set w 1 a.n) 0 1 65535 0 (omega arith) ∙ get_or-set_same w 1 a.n 0 (omega arith) in
    (sym e, simp (e, first, second))

pub overflow_cast-state : goal.overflow_cast-state
overflow_cast-state c = omega (arith, begun-small _ _ (sym c.fresh_number-code.ensures ∙ c.if-code-ne0.false))
