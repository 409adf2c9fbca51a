-- `wall_is_map` meets its contract, which is the theorem. Assumes nothing.
use Rattle.matching.proofs.Theorem.{wall_is_map}
use Rattle.matching.proofs.wall_is_map.Goals as goal

pub returns : goal.returns
returns c = wall_is_map
