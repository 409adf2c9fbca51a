-- `judging::set_aside` meets its contract: after so many turns the sum is that of as many records, each below 65,536.
-- Assumes nothing.
use Prim.Native.Nat.{ℕ, ◌≤◌}
use mathlib.Core.Bool.{Bool, true, false, cond}
use native.Mathlib.Omega.{arith}
use lib.ListN.{get_or}
use Rattle.requests.specs.Table.{is_open}
use Rattle.requests.specs.Words.{record_of}
use Rattle.requests.proofs.Beside.{aside-next, aside-ended}
use Rattle.requests.proofs.judging.set_aside.Goals as goal
use Rattle.requests.proofs.judging.set_aside.Goals.{After-aside_of-sum}

-- what a record has set aside is no more than its number
at_most : (t : Bool) (n : ℕ) → cond t n 0 ≤ n
at_most true n = omega arith
at_most false n = omega arith

few : (c : After-aside_of-sum) → c.aside_of-sum.result ≤ 65535
few c =
    let at = c in
    let a = at.args in
    let i = at.loop-counted.counted in
    let counts = is_open (record_of (get_or a.words.now i 0)) in
    omega (arith, c.aside_of-sum.ensures, at_most counts (get_or a.rooms.now i 0), c.shared_slice_known-in-loop-counted-2-1.given i)

pub loop-counted-init : goal.loop-counted-init
loop-counted-init c = (omega arith, omega arith, omega arith)

pub overflow_add-sum : goal.overflow_add-sum
overflow_add-sum c = let at = c in omega (arith, few (goal.at.overflow_add-sum c).After-aside_of-sum, at.requires.1)

pub loop-counted-preserved : goal.loop-counted-preserved
loop-counted-preserved c =
    let at = c in
    let start = at in
    let more =
    aside-next start.args.words.now start.args.rooms.now at.loop-counted.counted at.loop-counted.sum start.requires.0
    at.loop-counted.invariant.2 (omega arith) in
    (omega arith, omega (arith, few (goal.at.loop-counted-preserved c).After-aside_of-sum), rw c.aside_of-sum.ensures more)

pub returns : goal.returns
returns c =
    let start = c in
    let sum =
    aside-ended start.args.words.now start.args.rooms.now c.loop-counted.counted c.loop-counted.sum
    start.requires.0 c.loop-counted.invariant.2 (omega arith) in
    (sum, omega (arith, start.requires.1))
