-- `Sender::go_on` meets its contract: it tests the state's own fields. Assumes nothing.
use Rattle.channel.specs.State.{of_state, active_send}
use Rattle.channel.proofs.sending.Sender.go_on.Goals as goal

pub returns : goal.returns
unfolding of_state active_send
returns c = simp (c.sending_needs.ensures, c.counts.ensures)
