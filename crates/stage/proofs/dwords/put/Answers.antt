-- `dwords::put` meets its contract: past the end `set` changes nothing either. Assumes nothing.
use Rattle.std.proofs.Common.{sym}
use lib.Seq.{set_out}
use Rattle.stage.proofs.dwords.put.Goals as goal

pub returns-else-at-s : goal.returns-else-at-s
returns-else-at-s g c = sym (set_out _ _ _ c.if-at-s.false)
