-- `record::record_of` meets its contract. Assumes nothing.
use mathlib.Core.Path.{refl}
use Rattle.requests.specs.Words.{record_with}
use Rattle.requests.proofs.record.record_of.Goals as goal

pub returns : goal.returns
unfolding record_with
returns c = refl
