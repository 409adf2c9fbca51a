-- `cpd::part_located` meets its contract: by whether the name is shared, then by whether the part lies beyond. Assumes
-- nothing.
use Prim.Native.Nat.{◌+◌, ◌-◌}
use mathlib.Core.Path.{◌≡◌}
use native.Mathlib.Omega.{arith}
use borrow.Author.Tests.{lt-ltb, le-ltb}
use Rattle.firmware.specs.Private.{part_judged}
use Rattle.firmware.proofs.cpd.part_located.Goals as goal

pub returns-then-shared : goal.returns-then-shared
unfolding part_judged
returns-then-shared c = simp c.if-shared.true

pub returns-then-n-x : goal.returns-then-n-x
unfolding part_judged
returns-then-n-x c =
    let entered = c in
    simp (entered.if-shared.false, lt-ltb _ _ c.if-n-x.true)

pub returns : goal.returns
unfolding part_judged
returns c =
    let entered = c in
    let x = c.args.x in
    let d : x.start + x.len - x.start ≡ x.len = omega arith in
    simp (entered.if-shared.false, le-ltb _ _ c.if-n-x.false, d)
