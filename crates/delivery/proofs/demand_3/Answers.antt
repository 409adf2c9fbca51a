-- `demand_3` meets its contract, which is the theorem. Assumes nothing.
use Rattle.delivery.proofs.Theorem.{demand3}
use Rattle.delivery.proofs.demand_3.Goals as goal

pub returns : goal.returns
returns c = demand3
