-- `SideState::is_idle` meets its contract: it tests the state's own fields. Assumes nothing.
use Rattle.channel.specs.State.{of_state}
use Rattle.channel.proofs.state.SideState.is_idle.Goals as goal

pub returns : goal.returns
unfolding of_state
returns c = simp (c.fits_idle.ensures, c.counts.ensures)
