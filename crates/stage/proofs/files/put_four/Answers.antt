-- `files::put_four` meets its contract: it is laid in the bytes from `at` on, where there are any. Assumes
-- nothing.
use Rattle.stage.proofs.Laws.{from-there, from-none}
use Rattle.stage.proofs.files.put_four.Goals as goal

pub returns-then-at-s : goal.returns-then-at-s
returns-then-at-s c = from-there _ _ _ _ c.if-at-s.true c.put_front.ensures

pub returns-else-at-s : goal.returns-else-at-s
returns-else-at-s c = from-none _ _ _ c.if-at-s.false
