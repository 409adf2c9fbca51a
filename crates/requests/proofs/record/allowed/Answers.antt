-- `record::allowed` meets its contract: 1 to 256. Assumes nothing.
use mathlib.Core.Path.{refl}
use Rattle.requests.specs.Table.{allowed_length}
use Rattle.requests.proofs.record.allowed.Goals as goal

pub returns : goal.returns
unfolding allowed_length
returns c = refl
