-- `planning::counted` meets its contract. Assumes nothing.
use borrow.Author.Tests.{lt-ltb, le-ltb}
use Rattle.requests.specs.Calls.{counted}
use Rattle.requests.proofs.planning.counted.Goals as goal

pub returns-then-n-lt65535 : goal.returns-then-n-lt65535
unfolding counted
returns-then-n-lt65535 c = simp (lt-ltb _ _ c.if-n-lt65535.true)

pub returns-else-n-lt65535 : goal.returns-else-n-lt65535
unfolding counted
returns-else-n-lt65535 c = simp (le-ltb _ _ c.if-n-lt65535.false)
