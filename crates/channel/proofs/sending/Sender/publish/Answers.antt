-- `Sender::publish` meets its contract: it is the publish over a ring of this length. Assumes nothing.
use mathlib.Core.Path.{refl}
use Rattle.channel.proofs.sending.Sender.publish.Goals as goal

pub returns : goal.returns
returns c = c.publish_at.ensures c.args.buf.now refl
