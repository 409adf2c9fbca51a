-- `send` meets its contract: its two words say whether it fits, and an accepted call moves its own offset. Assumes
-- nothing.
use native.Mathlib.Omega.{arith}
use borrow.Author.Rules.{rules}
use Rattle.two_words.specs.TwoWords.{idle_of}
use Rattle.two_words.proofs.Laws.{own-moved}
use Rattle.channel.proofs.Wholes.{WholeSent, send_refused, whole_sent}
use Rattle.two_words.proofs.send.Goals as goal
use Rattle.two_words.proofs.send.Goals.{In_ok-tail}

-- what the send at once says of the side in its words
said :
    (q : In_ok-tail)
    → let a = q.args in
    let l = q.whole_send.new in
    WholeSent (idle_of a.w.now) a.msg.now a.desc.now a.buf.now q.in_ok-tail.tail l.desc l.buf
unfolding idle_of
said q =
    let numbers = q.numbers_of-s.ensures in
    whole_sent _ _ _ _ _ _ _ (rw (q.fits_buffer-fits.ensures, numbers.0, numbers.1) at q.in_ok-tail.ensures)

pub returns-in_err-tail : goal.returns-in_err-tail
unfolding idle_of
returns-in_err-tail c =
    let numbers = c.numbers_of-s.ensures in
    let e = rw (c.fits_buffer-fits.ensures, numbers.0, numbers.1) at c.in_err-tail.ensures in
    search (rules, send_refused (idle_of c.args.w.now) _ _ _ _ _ _ e)

pub overflow_cast-w : goal.overflow_cast-w
overflow_cast-w c = omega (arith, (said (goal.at.overflow_cast-w c).In_ok-tail).own-fits)

pub returns : goal.returns
returns c =
    (said (goal.at.returns c).In_ok-tail).own-moves _ (own-moved c.in_ok-tail.tail c.args.w.now (search rules))
