-- `messages::pack_message` meets its contract. Assumes nothing.
use mathlib.Core.Option.{Option-elim}
use Rattle.message.specs.Packing.{of_packed}
use Rattle.guc.specs.Messages.{packed_by}
use Rattle.guc.proofs.messages.pack_message.Goals as goal

pub returns-in-Err : goal.returns-in-Err
unfolding packed_by of_packed Option-elim
returns-in-Err c = rw (← c.pack.ensures, c.in-Err.is, ← c.number.ensures) c.not_packed.ensures

pub returns-in-Ok : goal.returns-in-Ok
unfolding packed_by of_packed Option-elim
returns-in-Ok c = rw (← c.pack.ensures, c.in-Ok.is)
