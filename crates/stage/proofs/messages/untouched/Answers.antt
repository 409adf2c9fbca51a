-- `messages::untouched` meets its contract: 256 dwords count up. Assumes nothing.
use Rattle.channel.specs.State.{zeros}
use Rattle.stage.specs.Messages.{untouched}
use Rattle.stage.proofs.messages.untouched.Goals as goal

pub returns : goal.returns
unfolding untouched zeros
returns c = simp (c.count_up.ensures, c.no_copy-out.ensures)
