-- `state::freed` meets its contract. Assumes nothing.
use mathlib.Core.Path.{sym, ◌∙◌}
use borrow.Author.Tests.{ne_eqb}
use Rattle.requests.specs.Plan.{freed}
use Rattle.requests.proofs.state.freed.Goals as goal

pub returns-then-fresh_number-eq0 : goal.returns-then-fresh_number-eq0
unfolding freed
returns-then-fresh_number-eq0 c = simp (sym c.fresh_number.ensures ∙ c.if-fresh_number-eq0.true)

pub returns-else-fresh_number-eq0 : goal.returns-else-fresh_number-eq0
unfolding freed
returns-else-fresh_number-eq0 c = let e = c.fresh_number.ensures in simp (rw e at (ne_eqb _ 0 c.if-fresh_number-eq0.false))
