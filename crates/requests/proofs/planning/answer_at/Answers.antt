-- `planning::answer_at` meets its contract. Assumes nothing.
use borrow.Author.Tests.{ne_eqb}
use Rattle.requests.specs.Calls.{record_after, answer_of, count_after}
use Rattle.requests.proofs.planning.answer_at.Goals as goal

pub returns-then-kind : goal.returns-then-kind
unfolding record_after answer_of count_after
returns-then-kind c = simp (c.if-kind.true, c.counted-count.ensures)

pub returns : goal.returns
unfolding record_after answer_of count_after
returns c = simp (ne_eqb _ _ c.if-kind.false)
