-- `Receiver::receive` meets its contract: a whole receive at once is its steps one after another. Assumes nothing.
use mathlib.Core.Path.{◌≡◌}
use mathlib.Core.Bool.{true}
use borrow.Author.Rules.{rules}
use Rattle.refusal.specs.declared.Refusal.TheVariants.{Malformed}
use Rattle.channel.specs.State.{of_state}
use Rattle.channel.proofs.Wholes.{Moves, moves-laid, moves-not, moves-past, whole-received}
use Rattle.channel.proofs.receiving.Receiver.receive.Goals as goal

pub returns-in-Ok : goal.returns-in-Ok
unfolding of_state
returns-in-Ok c =
    let e = rw c.is_idle-fits.ensures at c.whole_receive-end.ensures in
    let m : Moves c.whole_receive-end.result.answer true =
    search (rules, moves-laid, moves-past) in
    (whole-received _ _ _ _ _ _ _ e).own-moves m _ c.idle_at-self.ensures

pub returns-in-Err : goal.returns-in-Err
unfolding of_state
returns-in-Err c =
    let e = rw c.is_idle-fits.ensures at c.whole_receive-end.ensures in
    let n : c.in-Err.reason ≡ Malformed → ⊥ = λ q. search rules in
    rw c.in-Err.is at ((whole-received _ _ _ _ _ _ _ e).state-stays (moves-not _ _ c.in-Err.is n))
