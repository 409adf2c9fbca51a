-- `half_whole` meets its contract, which is the statement. Assumes nothing.
use Rattle.delivery.proofs.HalfWhole.{half_whole_lem}
use Rattle.delivery.proofs.half_whole.Goals as goal

pub returns : goal.returns
returns c = half_whole_lem
