-- `opening::open_channel` meets its contract: the number says which case of the opening holds. Assumes nothing.
use mathlib.Core.Path.{sym}
use Rattle.refusal.proofs.NotZero.{number-not-0}
use Rattle.channel.specs.Opening.{open_by}
use Rattle.channel.proofs.Going.{open_sixteen}
use Rattle.channel.proofs.opening.open_channel.Goals as goal

pub returns-in-Err : goal.returns-in-Err
unfolding open_by
returns-in-Err c = rw (← c.in-Err.ensures, number-not-0 c.in-Err.reason) (simp (c.idle_at.ensures, c.idle_at-in-Err.ensures))

pub returns : goal.returns
unfolding open_by
returns c =
    let sixteen = open_sixteen _ _ (sym c.in_default.ensures) in
    rw (← c.in_default.ensures) (simp (c.fill.ensures.after (λ y e. e), sixteen, c.idle_at-2.ensures, c.idle_at-3.ensures))
