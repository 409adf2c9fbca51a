-- `sending::send_store_all` meets its contract: a refusal leaves all; past it all that is left is stored and counted.
-- Assumes nothing.
use mathlib.Core.Path.{◌≡◌, refl, sym}
use native.Mathlib.Omega.{arith}
use lib.ListN.{length}
use borrow.Author.Rules.{rules}
use Rattle.ring.specs.Numbers.{need}
use Rattle.channel.specs.Send
use Rattle.channel.proofs.AllMoves.{send-two}
use Rattle.channel.proofs.Answered.{send-all-refused}
use Rattle.channel.proofs.Going.{Going, going_send}
use Rattle.side.specs.Words.{state_of}
use Rattle.side.proofs.InWords.{words_sending}
use Rattle.side.proofs.Left.{all-stored}
use Rattle.side.proofs.sending.send_store_all.Goals as goal
use Rattle.side.proofs.sending.send_store_all.Goals.{In_ok-sending_needs}

-- a call that goes on: its number is 0, and what it has by that
accepted : (c : In_ok-sending_needs) → let a = c.args in Send.go_on_number (state_of a.w.now) a.desc.now a.buf.now ≡ 0
unfolding Send.go_on_number need
accepted c = sym (rw (c.counts_of-s.ensures, words_sending) at c.in_ok-sending_needs.ensures)

fits : (c : In_ok-sending_needs) → let a = c.args in Going (length a.buf.now) (state_of a.w.now)
unfolding Send.go_on_number
fits c = going_send _ _ _ _ 0 refl refl refl (accepted c)

pub returns-in_err-sending_needs : goal.returns-in_err-sending_needs
unfolding Send.go_on_number need
returns-in_err-sending_needs c =
    let e = rw (c.counts_of-s.ensures, words_sending) at c.in_err-sending_needs.ensures in
    search (rules, send-all-refused _ _ _ _ e)

pub store_left-requires : goal.store_left-requires
store_left-requires c =
    let ok = (goal.at.store_left-requires c).In_ok-sending_needs in
    let g = fits ok in
    rw c.counts_of-s.ensures
    (search rules, refl, refl, g.within, send-two _ _ _ (accepted ok), g.short, g.own, g.low, g.high)

pub overflow_cast-w : goal.overflow_cast-w
overflow_cast-w c = rw c.counts_of-s.ensures (omega (arith, (fits (goal.at.overflow_cast-w c).In_ok-sending_needs).short))

pub returns : goal.returns
returns c =
    let a = c.args in
    let s = c.counts_of-s.ensures in
    let stored = rw s at c.store_left.ensures in
    rw s (all-stored a.w.now a.desc.now a.buf.now (search rules) _ (accepted (goal.at.returns c).In_ok-sending_needs) stored)
