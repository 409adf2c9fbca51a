-- `bytes::word_at` meets its contract. Assumes nothing.
use native.Mathlib.Omega.{arith}
use Rattle.firmware.specs.Bytes.{word_at}
use Rattle.firmware.proofs.bytes.word_at.Goals as goal

pub returns : goal.returns
unfolding word_at
returns c = omega (arith, c.from_le_bytes.ensures)
