-- `asking::ask_reply` meets its contract. Assumes nothing.
use mathlib.Core.Path.{refl}
use Rattle.requests.specs.Plan.{asks_reply}
use Rattle.requests.proofs.asking.ask_reply.Goals as goal

pub returns : goal.returns
unfolding asks_reply
returns c = refl
