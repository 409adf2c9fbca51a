-- `record::is_open` meets its contract. Assumes nothing.
use mathlib.Core.Path.{refl}
use Rattle.requests.specs.Table.{is_open}
use Rattle.requests.specs.Words.{record_with}
use Rattle.requests.proofs.record.is_open.Goals as goal

pub returns : goal.returns
unfolding is_open record_with
returns c = refl
