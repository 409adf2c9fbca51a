-- `fence::after` meets its contract. Assumes nothing.
use native.Mathlib.Omega.{arith}
use Rattle.requests.specs.Fence.{after}
use Rattle.requests.proofs.fence.after.Goals as goal

pub returns-then-fence-eq65535 : goal.returns-then-fence-eq65535
unfolding after
returns-then-fence-eq65535 c = omega arith

pub returns-else-fence-eq65535 : goal.returns-else-fence-eq65535
unfolding after
returns-else-fence-eq65535 c = omega (arith, c.if-fence-eq65535.false)
