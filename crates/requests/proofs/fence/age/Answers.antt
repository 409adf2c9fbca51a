-- `fence::age` meets its contract, at both ends of its range too. Assumes nothing.
use Prim.Native.Nat.{◌+◌, ◌-◌, ◌%◌}
use native.Mathlib.Omega.{arith}
use Rattle.requests.specs.Fence.{age}
use Rattle.requests.proofs.Signs.{sign_low, less_fits, sign_high}
use Rattle.requests.proofs.fence.age.Goals as goal

pub overflow_sub-result : goal.overflow_sub-result
overflow_sub-result c =
    let a = c.args in
    less_fits ((a.fence + 65536 - a.newest) % 65536) (omega arith)

pub returns-then-d-lt32768 : goal.returns-then-d-lt32768
unfolding age
returns-then-d-lt32768 c = sign_low _ c.if-d-lt32768.true

pub returns-else-d-lt32768 : goal.returns-else-d-lt32768
unfolding age
returns-else-d-lt32768 c = sign_high _ (omega arith) c.if-d-lt32768.false
