-- `bytes::dword_at` meets its contract. Assumes nothing.
use native.Mathlib.Omega.{arith}
use Rattle.firmware.specs.Bytes.{dword_at}
use Rattle.firmware.proofs.bytes.dword_at.Goals as goal

pub returns : goal.returns
unfolding dword_at
returns c = (omega (arith, c.from_le_bytes.ensures), omega arith)
