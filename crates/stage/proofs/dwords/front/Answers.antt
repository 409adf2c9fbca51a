-- `dwords::front` meets its contract: all of what was lent is its front where it is no longer. Assumes nothing.
use Rattle.stage.proofs.Laws.{front-all}
use Rattle.stage.proofs.dwords.front.Goals as goal

pub returns-else-len-s : goal.returns-else-len-s
returns-else-len-s g c = front-all _ _ c.if-len-s.false
