-- `kept` meets its contract: the test that led to each return picks the case. Assumes nothing.
use borrow.Author.Tests.{le-leb, lt-leb}
use Rattle.wall.specs.Private.{kept}
use Rattle.wall.proofs.kept.Goals as goal

pub returns-then-n-le-RECORDS_MAX : goal.returns-then-n-le-RECORDS_MAX
unfolding kept
returns-then-n-le-RECORDS_MAX c = simp (le-leb _ _ c.if-n-le-RECORDS_MAX.true)

pub returns-else-n-le-RECORDS_MAX : goal.returns-else-n-le-RECORDS_MAX
unfolding kept
returns-else-n-le-RECORDS_MAX c = simp (lt-leb _ _ c.if-n-le-RECORDS_MAX.false)
