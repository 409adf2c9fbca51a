-- `both_ways` meets its contract. Assumes nothing.
use Rattle.guc.proofs.BothWays.{both_ways}
use Rattle.guc.proofs.both_ways.Goals as goal

pub returns : goal.returns
returns c = both_ways
