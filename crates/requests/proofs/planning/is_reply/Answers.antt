-- `planning::is_reply` meets its contract. Assumes nothing.
use mathlib.Core.Path.{refl}
use Rattle.requests.specs.Calls.{is_reply}
use Rattle.requests.proofs.planning.is_reply.Goals as goal

pub returns : goal.returns
unfolding is_reply
returns c = refl
