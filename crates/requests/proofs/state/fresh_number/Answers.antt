-- `state::fresh_number` meets its contract. Assumes nothing.
use mathlib.Core.Path.{sym, ◌∙◌}
use borrow.Author.Tests.{not-true, not-false}
use Rattle.ring.specs.Numbers.{need}
use Rattle.requests.specs.Calls.{fresh_number}
use Rattle.requests.proofs.state.fresh_number.Goals as goal

pub returns-then-not-allowed : goal.returns-then-not-allowed
unfolding fresh_number need
returns-then-not-allowed c = simp (sym c.allowed.ensures ∙ not-true _ c.if-not-allowed.true-raw)

pub returns-then-not-allowed-2 : goal.returns-then-not-allowed-2
unfolding fresh_number need
returns-then-not-allowed-2 c =
    let q = c in
    let e = sym q.allowed.ensures ∙ not-false _ q.if-not-allowed.false-raw in
    simp (e, sym c.allowed-2.ensures ∙ not-true _ c.if-not-allowed-2.true-raw)

pub returns : goal.returns
unfolding fresh_number need
returns c =
    let q = c in
    let e = sym q.allowed.ensures ∙ not-false _ q.if-not-allowed.false-raw in
    simp (e, sym c.allowed-2.ensures ∙ not-false _ c.if-not-allowed-2.false-raw)
