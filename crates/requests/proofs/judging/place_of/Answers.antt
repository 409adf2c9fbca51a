-- `judging::place_of` meets its contract: after i turns the place is i and the place in the words from i on. Assumes
-- nothing.
use mathlib.Core.Path.{sym, ◌∙◌}
use native.Mathlib.Omega.{arith}
use Rattle.requests.proofs.Walks.{place_found, place_passed, place_ended}
use Rattle.requests.proofs.judging.place_of.Goals as goal

pub loop-i-init : goal.loop-i-init
loop-i-init c = (omega arith, omega arith)

pub returns-then-has_fence : goal.returns-then-has_fence
returns-then-has_fence c =
    let l = c in
    place_found _ _ _ l.loop-i.invariant.1 (omega arith) (sym c.has_fence.ensures ∙ c.if-has_fence.true)

pub loop-i-preserved : goal.loop-i-preserved
loop-i-preserved c =
    let l = c in
    let h = sym c.has_fence.ensures ∙ c.if-has_fence.false in
    (omega arith, place_passed _ _ _ l.loop-i.invariant.1 (omega arith) h)

pub returns : goal.returns
returns c = place_ended _ _ _ c.loop-i.invariant.1 (omega arith)
