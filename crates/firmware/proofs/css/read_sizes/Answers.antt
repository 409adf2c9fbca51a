-- `css::read_sizes` meets its contract. Assumes nothing.
use native.Mathlib.Omega.{arith}
use Rattle.firmware.specs.Css
use Rattle.firmware.proofs.css.read_sizes.Goals as goal

pub returns : goal.returns
unfolding Css.sizes
returns c = (cc, omega arith)
