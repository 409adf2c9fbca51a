-- `stage::fresh_wall` meets its contract: the definition, unfolded.
use Rattle.std.proofs.Common.{refl}
use Rattle.stage.specs.Walls.{fresh_wall}
use Rattle.stage.proofs.walls.fresh_wall.Goals as goal

pub returns : goal.returns
unfolding fresh_wall
returns c = refl
