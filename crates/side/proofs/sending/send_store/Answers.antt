-- `sending::send_store` meets its contract: a refusal leaves all; past it the state is active and fits. Assumes nothing.
use Prim.Native.Nat.{◌+◌, ◌<◌}
use mathlib.Core.Path.{◌≡◌, refl, sym, ap, ◌∙◌}
use native.Mathlib.Omega.{arith}
use lib.ListN.{length}
use borrow.Author.Rules.{rules}
use borrow.Author.Tests.{ltb-true}
use Rattle.channel.specs.Send
use Rattle.channel.specs.declared.state.Counts.{Counts}
use Rattle.channel.proofs.Answered.{send-move-refused}
use Rattle.channel.proofs.Going.{Going, going_send, going_test}
use Rattle.side.specs.Words.{state_of}
use Rattle.side.proofs.InWords.{counts_place, moved-set, words_sending}
use Rattle.side.proofs.sending.send_store.Goals as goal
use Rattle.side.proofs.sending.send_store.Goals.{In_ok-sending_needs}

-- what a step that goes on has: its number is 0
zero : (c : In_ok-sending_needs) → let a = c.args in Send.move_number (state_of a.w.now) a.desc.now a.buf.now ≡ 0
unfolding Send.move_number
zero c = sym (rw (c.counts_of-s.ensures, words_sending) at c.in_ok-sending_needs.ensures)

fits : (c : In_ok-sending_needs) → let a = c.args in Going (length a.buf.now) (state_of a.w.now)
unfolding Send.move_number
fits c = going_send _ _ _ _ 0 refl refl refl (zero c)

more : (c : In_ok-sending_needs) → let s = state_of c.args.w.now in s.moved < s.len
unfolding Send.move_number
more c = ltb-true _ _ (going_test _ _ _ _ (zero c))

moved_is : (c : In_ok-sending_needs) → c.counts_of-s.result.moved ≡ (state_of c.args.w.now).moved
moved_is c = ap (λ (x : Counts). x.moved) c.counts_of-s.ensures

below : (c : In_ok-sending_needs) → c.counts_of-s.result.moved < 256
below c = omega (arith, moved_is c, more c, (fits c).short)

pub returns-in_err-sending_needs : goal.returns-in_err-sending_needs
unfolding Send.move_number
returns-in_err-sending_needs c =
    let e = rw (c.counts_of-s.ensures, words_sending) at c.in_err-sending_needs.ensures in
    search (rules, send-move-refused _ _ _ _ e)

pub dword_of_copy-dword-requires : goal.dword_of_copy-dword-requires
dword_of_copy-dword-requires c = (refl, refl, omega (arith, below (goal.at.dword_of_copy-dword-requires c).In_ok-sending_needs))

pub returns : goal.returns
unfolding Send.move_by
returns c =
    let w = c.args.w.now in
    let ok = (goal.at.returns c).In_ok-sending_needs in
    let p = c.past.ensures.0 ∙ counts_place _ _ _ c.counts_of-s.ensures (fits ok) in
    rw (zero ok)
    (simp (c.put.ensures, p, c.dword_of_copy-dword.ensures, moved_is ok, moved-set ((state_of w).moved + 1) w (search rules)))

pub overflow_add-w : goal.overflow_add-w
overflow_add-w c = omega (arith, below (goal.at.overflow_add-w c).In_ok-sending_needs)

pub overflow_cast-w : goal.overflow_cast-w
overflow_cast-w c = omega (arith, below (goal.at.overflow_cast-w c).In_ok-sending_needs)
