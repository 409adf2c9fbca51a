-- `SideState::idle_at` meets its contract. Assumes nothing.
use Rattle.channel.specs.State.{of_state}
use Rattle.channel.proofs.state.SideState.idle_at.Goals as goal

pub returns : goal.returns
unfolding of_state
returns c = simp c.no_copy.ensures
