-- `receiving::receive` meets its contract: the state's numbers and its zeros say whether it is idle, and an accepted
-- call moves its own offset. Assumes nothing.
use mathlib.Core.Path.{◌≡◌, ap}
use mathlib.Core.Bool.{true}
use native.Mathlib.Omega.{arith}
use lib.ListN.{length}
use borrow.Author.Rules.{rules}
use Rattle.refusal.specs.declared.Refusal.TheVariants.{Malformed}
use Rattle.channel.specs.declared.state.Counts.{Counts}
use Rattle.side.specs.Words.{state_of}
use Rattle.side.proofs.InWords.{idle-own, idle_words}
use Rattle.channel.proofs.Wholes.{Moves, WholeReceived, moves-laid, moves-not, moves-past, whole-received}
use Rattle.side.proofs.receiving.receive.Goals as goal
use Rattle.side.proofs.receiving.receive.Goals.{After-whole_receive-end}

-- what the receive at once says of the side in its words
said :
    (q : After-whole_receive-end)
    → let a = q.args in
    let l = q.whole_receive-end.new in
    WholeReceived (state_of a.w.now) a.out.now a.desc.now a.buf.now q.whole_receive-end.result l.desc l.out
said q =
    let own = ap (λ (x : Counts). x.own) q.counts_of-s.ensures in
    whole-received _ _ _ _ _ _ _ (rw (q.is_idle-fits.ensures, own) at q.whole_receive-end.ensures)

pub overflow_cast-w : goal.overflow_cast-w
overflow_cast-w c =
    let m : Moves c.whole_receive-end.result.answer true = search (rules, moves-laid, moves-past) in
    omega (arith, (said (goal.at.overflow_cast-w c).After-whole_receive-end).own-fits m)

pub returns-in-Ok : goal.returns-in-Ok
returns-in-Ok c =
    let a = c.args in
    let s = said (goal.at.returns-in-Ok c).After-whole_receive-end in
    let m : Moves c.whole_receive-end.result.answer true = search (rules, moves-laid, moves-past) in
    let h : length a.w.now ≡ 260 = search rules in
    let i = idle_words (length a.buf.now) a.w.now h (s.from-idle m) in
    s.own-moves m _ (idle-own c.whole_receive-end.result.own a.w.now h i)

pub returns-in-Err : goal.returns-in-Err
returns-in-Err c =
    let n : c.in-Err.reason ≡ Malformed → ⊥ = λ q. search rules in
    rw c.in-Err.is at ((said (goal.at.returns-in-Err c).After-whole_receive-end).state-stays (moves-not _ _ c.in-Err.is n))
