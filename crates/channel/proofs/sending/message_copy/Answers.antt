-- `sending::message_copy` meets its contract: the message is laid over zeros. Assumes nothing.
use Rattle.channel.proofs.sending.message_copy.Goals as goal

pub returns : goal.returns
returns c = rw c.no_copy-copy.ensures at c.lay.ensures
