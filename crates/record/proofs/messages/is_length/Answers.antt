-- `messages::is_length` meets its contract. Assumes nothing.
use mathlib.Core.Path.{refl}
use Rattle.record.specs.Runs.{is_length}
use Rattle.record.proofs.messages.is_length.Goals as goal

pub returns : goal.returns
unfolding is_length
returns c = refl
