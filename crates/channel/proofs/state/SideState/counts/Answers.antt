-- `SideState::counts` meets its contract: they are the state's. Assumes nothing.
use mathlib.Core.Path.{refl}
use Rattle.channel.specs.State.{of_state}
use Rattle.channel.proofs.state.SideState.counts.Goals as goal

pub returns : goal.returns
unfolding of_state
returns c = refl
