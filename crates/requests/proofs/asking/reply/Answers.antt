-- `asking::reply` meets its contract. Assumes nothing.
use Rattle.requests.specs.Calls.{heard_of}
use Rattle.requests.proofs.asking.reply.Goals as goal

pub returns : goal.returns
unfolding heard_of
returns c = simp (c.from.ensures, c.kind.ensures)
