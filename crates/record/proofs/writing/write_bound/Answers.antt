-- `writing::write_bound` meets its contract. Assumes nothing.
use native.Mathlib.Omega.{arith}
use Rattle.record.specs.Calls.{write_bound}
use Rattle.record.proofs.writing.write_bound.Goals as goal

pub returns : goal.returns
unfolding write_bound
returns c = omega arith
