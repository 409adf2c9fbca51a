-- `sending::send_as` meets its contract: the state's numbers and its zeros say whether it is idle, and an accepted call
-- moves its own offset. Assumes nothing.
use mathlib.Core.Path.{◌≡◌, ap}
use native.Mathlib.Omega.{arith}
use lib.ListN.{length}
use borrow.Author.Rules.{rules}
use Rattle.channel.specs.declared.state.Counts.{Counts}
use Rattle.ring.specs.AtOnce.{opened_by}
use Rattle.side.specs.Words.{state_of}
use Rattle.side.proofs.InWords.{idle-own, idle_words}
use Rattle.channel.proofs.Wholes.{WholeSent, send_refused, whole_sent}
use Rattle.side.proofs.sending.send_as.Goals as goal
use Rattle.side.proofs.sending.send_as.Goals.{In_ok-tail}

-- what the send at once says of the side in its words
said :
    (q : In_ok-tail)
    → let a = q.args in
    let l = q.whole_send_as.new in
    WholeSent (state_of a.w.now) (opened_by a.header a.word a.msg.now) a.desc.now a.buf.now q.in_ok-tail.tail l.desc l.buf
said q =
    let own = ap (λ (x : Counts). x.own) q.counts_of-s.ensures in
    whole_sent _ _ _ _ _ _ _ (rw (q.is_idle-fits.ensures, own) at q.in_ok-tail.ensures)

pub returns-in_err-tail : goal.returns-in_err-tail
returns-in_err-tail c =
    let own = ap (λ (x : Counts). x.own) c.counts_of-s.ensures in
    let e = rw (c.is_idle-fits.ensures, own) at c.in_err-tail.ensures in
    search (rules, send_refused _ _ _ _ _ _ _ e)

pub overflow_cast-w : goal.overflow_cast-w
overflow_cast-w c = omega (arith, (said (goal.at.overflow_cast-w c).In_ok-tail).own-fits)

pub returns : goal.returns
returns c =
    let a = c.args in
    let h : length a.w.now ≡ 260 = search rules in
    let s = said (goal.at.returns c).In_ok-tail in
    let i = idle_words (length a.buf.now) a.w.now h s.from-idle in
    s.own-moves _ (idle-own c.in_ok-tail.tail a.w.now h i)
