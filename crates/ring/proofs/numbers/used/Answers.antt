-- `numbers::used` meets its contract: the remainder is taken by a test. Assumes nothing.
use mathlib.Core.Path.{sym}
use Rattle.ring.proofs.LookNeeds.{used_up, used_round}
use Rattle.ring.proofs.numbers.used.Goals as goal

pub returns-then-head-tail : goal.returns-then-head-tail
returns-then-head-tail c = sym (used_up _ _ _ c.if-head-tail.true c.requires.1)

pub returns-else-head-tail : goal.returns-else-head-tail
returns-else-head-tail c = sym (used_round _ _ _ c.if-head-tail.false c.requires.0)
