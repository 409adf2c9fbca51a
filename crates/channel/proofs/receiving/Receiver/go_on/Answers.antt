-- `Receiver::go_on` meets its contract: it tests the state's own fields. Assumes nothing.
use Rattle.channel.specs.State.{of_state, active_receive}
use Rattle.channel.proofs.receiving.Receiver.go_on.Goals as goal

pub returns : goal.returns
unfolding of_state active_receive
returns c = simp (c.receiving_needs.ensures, c.counts.ensures)
