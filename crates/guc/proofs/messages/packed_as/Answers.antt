-- `messages::packed_as` meets its contract. Assumes nothing.
use Rattle.guc.proofs.messages.packed_as.Goals as goal

pub returns : goal.returns
returns c = rw c.of.ensures at c.pack_message.ensures
