-- `name::front_at` meets its contract. Assumes nothing.
use native.Mathlib.Omega.{arith}
use Rattle.firmware.specs.Private.{front_at}
use Rattle.firmware.proofs.name.front_at.Goals as goal

pub returns : goal.returns
unfolding front_at
returns c = omega (arith, c.dword_at.ensures.0, c.dword_at-2.ensures.0, c.dword_at-2.ensures.1)
