-- `judging::lowest_free` meets its contract: after i turns the place is i and the place in the words from i on. Assumes
-- nothing.
use mathlib.Core.Path.{sym, ◌∙◌}
use native.Mathlib.Omega.{arith}
use borrow.Author.Tests.{not-true, not-false}
use Rattle.requests.proofs.Walks.{free-found, free_passed, free_ended}
use Rattle.requests.proofs.judging.lowest_free.Goals as goal

pub loop-place-init : goal.loop-place-init
loop-place-init c = (omega arith, omega arith)

pub returns-then-not-is_open : goal.returns-then-not-is_open
returns-then-not-is_open c =
    let l = c in
    free-found _ _ l.loop-place.invariant.1 (omega arith) (sym c.is_open.ensures ∙ not-true _ c.if-not-is_open.true-raw)

pub loop-place-preserved : goal.loop-place-preserved
loop-place-preserved c =
    let l = c in
    let h = sym c.is_open.ensures ∙ not-false _ c.if-not-is_open.false-raw in
    (omega arith, free_passed _ _ l.loop-place.invariant.1 (omega arith) h)

pub returns : goal.returns
returns c = free_ended _ _ c.loop-place.invariant.1 (omega arith)
