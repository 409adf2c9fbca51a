-- `receiving::receive_copy_all` meets its contract: a refusal leaves all; past it all that is left is copied and counted.
-- Assumes nothing.
use mathlib.Core.Path.{◌≡◌, refl, sym}
use native.Mathlib.Omega.{arith}
use lib.ListN.{length}
use borrow.Author.Rules.{rules}
use Rattle.ring.specs.Numbers.{need}
use Rattle.channel.specs.Receive
use Rattle.channel.proofs.Answered.{receive-all-refused}
use Rattle.channel.proofs.Going.{Going, going_receive}
use Rattle.side.specs.Words.{state_of}
use Rattle.side.proofs.InWords.{words_receiving}
use Rattle.side.proofs.Left.{all-copied}
use Rattle.side.proofs.receiving.receive_copy_all.Goals as goal
use Rattle.side.proofs.receiving.receive_copy_all.Goals.{In_ok-receiving_needs}

-- a call that goes on: its number is 0, and what it has by that
accepted : (c : In_ok-receiving_needs) → let a = c.args in Receive.go_on_number (state_of a.w.now) a.desc.now a.buf.now ≡ 0
unfolding Receive.go_on_number need
accepted c = sym (rw (c.counts_of-s.ensures, words_receiving) at c.in_ok-receiving_needs.ensures)

fits : (c : In_ok-receiving_needs) → let a = c.args in Going (length a.buf.now) (state_of a.w.now)
unfolding Receive.go_on_number
fits c = going_receive _ _ _ _ 0 refl refl refl (accepted c)

pub returns-in_err-receiving_needs : goal.returns-in_err-receiving_needs
unfolding Receive.go_on_number need
returns-in_err-receiving_needs c =
    let e = rw (c.counts_of-s.ensures, words_receiving) at c.in_err-receiving_needs.ensures in
    search (rules, receive-all-refused _ _ _ _ e)

pub copy_left-requires : goal.copy_left-requires
copy_left-requires c =
    let g = fits (goal.at.copy_left-requires c).In_ok-receiving_needs in
    rw c.counts_of-s.ensures
    (search rules, g.within, g.short, g.own, g.low, g.high)

pub overflow_cast-w : goal.overflow_cast-w
overflow_cast-w c = rw c.counts_of-s.ensures (omega (arith, (fits (goal.at.overflow_cast-w c).In_ok-receiving_needs).short))

pub returns : goal.returns
returns c =
    let a = c.args in
    let s = c.counts_of-s.ensures in
    let copied = rw s at c.copy_left.ensures in
    rw s (all-copied a.w.now a.desc.now a.buf.now (search rules) _ (accepted (goal.at.returns c).In_ok-receiving_needs) copied)
