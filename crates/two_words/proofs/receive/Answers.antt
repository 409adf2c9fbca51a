-- `receive` meets its contract: its two words say whether it fits, and an accepted call moves its own offset. Assumes
-- nothing.
use mathlib.Core.Bool.{true}
use native.Mathlib.Omega.{arith}
use borrow.Author.Rules.{rules}
use Rattle.std.proofs.Common.{◌≡◌}
use Rattle.refusal.specs.declared.Refusal.TheVariants.{Malformed}
use Rattle.two_words.specs.TwoWords.{idle_of}
use Rattle.two_words.proofs.Laws.{own-moved}
use Rattle.channel.proofs.Wholes.{Moves, WholeReceived, moves-laid, moves-not, moves-past, whole-received}
use Rattle.two_words.proofs.receive.Goals as goal
use Rattle.two_words.proofs.receive.Goals.{After-whole_receive-end}

-- what the receive at once says of the side in its words
said :
    (q : After-whole_receive-end)
    → let a = q.args in
    let l = q.whole_receive-end.new in
    WholeReceived (idle_of a.w.now) a.out.now a.desc.now a.buf.now q.whole_receive-end.result l.desc l.out
unfolding idle_of
said q =
    let numbers = q.numbers_of-s.ensures in
    whole-received _ _ _ _ _ _ _ (rw (q.fits_buffer-fits.ensures, numbers.0, numbers.1) at q.whole_receive-end.ensures)

pub overflow_cast-w : goal.overflow_cast-w
overflow_cast-w c =
    let m : Moves c.whole_receive-end.result.answer true = search (rules, moves-laid, moves-past) in
    omega (arith, (said (goal.at.overflow_cast-w c).After-whole_receive-end).own-fits m)

pub returns-in-Ok : goal.returns-in-Ok
returns-in-Ok c =
    let m : Moves c.whole_receive-end.result.answer true = search (rules, moves-laid, moves-past) in
    (said (goal.at.returns-in-Ok c).After-whole_receive-end).own-moves m _ (own-moved c.whole_receive-end.result.own c.args.w.now (search rules))

pub returns-in-Err : goal.returns-in-Err
returns-in-Err c =
    let n : c.in-Err.reason ≡ Malformed → ⊥ = λ q. search rules in
    rw c.in-Err.is at ((said (goal.at.returns-in-Err c).After-whole_receive-end).state-stays (moves-not _ _ c.in-Err.is n))
