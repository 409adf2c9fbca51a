-- `record::has_fence` meets its contract. Assumes nothing.
use Rattle.requests.specs.Table.{has_fence}
use Rattle.requests.proofs.record.has_fence.Goals as goal

pub returns : goal.returns
unfolding has_fence
returns c = rw (c.is_open.ensures, c.fence_of.ensures)
