-- `figures::measured` meets its contract. Assumes nothing.
use borrow.Author.Tests.{lt-ltb, le-ltb}
use Rattle.firmware.specs.Figures.{measured}
use Rattle.firmware.proofs.figures.measured.Goals as goal

pub returns-then-there-needed : goal.returns-then-there-needed
unfolding measured
returns-then-there-needed c = simp (lt-ltb _ _ c.if-there-needed.true)

pub returns-else-there-needed : goal.returns-else-there-needed
unfolding measured
returns-else-there-needed c = simp (le-ltb _ _ c.if-there-needed.false)
