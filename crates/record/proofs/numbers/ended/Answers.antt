-- `numbers::ended` meets its contract. Assumes nothing.
use Rattle.record.specs.Private.{ended}
use Rattle.record.proofs.numbers.ended.Goals as goal

pub returns-then-group-size : goal.returns-then-group-size
unfolding ended
returns-then-group-size c = rw c.if-group-size.true

pub returns : goal.returns
unfolding ended
returns c = rw (c.if-group-size.false, c.from.ensures)
