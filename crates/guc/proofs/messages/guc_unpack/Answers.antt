-- `messages::guc_unpack` meets its contract. Assumes nothing.
use mathlib.Core.Option.{Option-elim}
use Rattle.message.specs.Packing.{of_unpacked}
use Rattle.guc.specs.Messages.{unpacked_by}
use Rattle.guc.proofs.messages.guc_unpack.Goals as goal

pub returns-in-Err : goal.returns-in-Err
unfolding unpacked_by of_unpacked Option-elim
returns-in-Err c = rw (← c.unpack.ensures, c.in-Err.is, c.number.ensures)

pub returns-in-Ok : goal.returns-in-Ok
unfolding unpacked_by of_unpacked Option-elim
returns-in-Ok c = rw (← c.unpack.ensures, c.in-Ok.is) c.decoded.ensures
