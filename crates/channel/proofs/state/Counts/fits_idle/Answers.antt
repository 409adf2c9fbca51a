-- `Counts::fits_idle` meets its contract: its tests are the definition's. Assumes nothing.
use Rattle.channel.specs.State.{idle}
use Rattle.channel.proofs.state.Counts.fits_idle.Goals as goal

pub returns : goal.returns
unfolding idle
returns c = simp c.all_zero.ensures
