-- `opening::open_channel` meets its contract. Assumes nothing.
use mathlib.Core.Path.{sym}
use native.Mathlib.Omega.{arith}
use Rattle.refusal.proofs.NotZero.{number-not-0}
use Rattle.channel.specs.Opening.{open_by}
use Rattle.channel.proofs.Going.{open_sixteen, open_high}
use Rattle.side.proofs.opening.open_channel.Goals as goal

pub returns-in-Err : goal.returns-in-Err
unfolding open_by
returns-in-Err c =
    rw (← c.in-Err.ensures, number-not-0 c.in-Err.reason) (simp (c.make.ensures, c.make-in-Err.ensures))

pub overflow_cast-n : goal.overflow_cast-n
overflow_cast-n c = omega (arith, open_high _ _ (sym c.in_default.ensures))

pub returns : goal.returns
unfolding open_by
returns c =
    let e = sym c.in_default.ensures in
    let sixteen = open_sixteen _ _ e in
    let opens = rw sixteen at e in
    simp (c.fill.ensures.after (λ y e. e), sixteen, opens, c.make-2.ensures, c.make-3.ensures)
