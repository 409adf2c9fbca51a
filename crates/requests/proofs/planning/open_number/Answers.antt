-- `planning::open_number` meets its contract: its tests are those of the two needs, in their order. Assumes nothing.
use Rattle.ring.specs.Numbers.{need}
use Rattle.requests.proofs.planning.open_number.Goals as goal

pub returns-then-not-free : goal.returns-then-not-free
unfolding need
returns-then-not-free c = simp c.if-not-free.true

pub returns-then-not-fits : goal.returns-then-not-fits
unfolding need
returns-then-not-fits c = simp (c.if-not-free.false, c.if-not-fits.true)

pub returns : goal.returns
unfolding need
returns c = simp (c.if-not-free.false, c.if-not-fits.false)
