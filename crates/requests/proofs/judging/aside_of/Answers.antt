-- `judging::aside_of` meets its contract. Assumes nothing.
use mathlib.Core.Path.{sym, ◌∙◌}
use Rattle.requests.proofs.judging.aside_of.Goals as goal

pub returns-then-is_open : goal.returns-then-is_open
returns-then-is_open c = simp (sym c.is_open.ensures ∙ c.if-is_open.true)

pub returns-else-is_open : goal.returns-else-is_open
returns-else-is_open c = simp (sym c.is_open.ensures ∙ c.if-is_open.false)
