-- `mixed_lists` meets its contract, which is the theorem. Assumes nothing.
use Rattle.matching.proofs.Mixing.{mixed_lists}
use Rattle.matching.proofs.mixed_lists.Goals as goal

pub returns : goal.returns
returns c = mixed_lists
