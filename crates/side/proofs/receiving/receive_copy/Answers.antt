-- `receiving::receive_copy` meets its contract: a refusal leaves all; past it the state is active and fits. Assumes
-- nothing.
use Prim.Native.Nat.{◌+◌, ◌%◌, ◌<◌}
use mathlib.Core.Path.{◌≡◌, refl, sym, ap, ◌∙◌}
use native.Mathlib.Omega.{arith}
use lib.ListN.{length, get_or}
use borrow.Author.Rules.{rules}
use borrow.Author.Tests.{ltb-true}
use Rattle.channel.specs.Receive
use Rattle.channel.specs.declared.state.Counts.{Counts}
use Rattle.channel.proofs.Answered.{receive-move-refused}
use Rattle.channel.proofs.Going.{Going, going_receive, going_test}
use Rattle.side.specs.Words.{state_of}
use Rattle.side.proofs.InWords.{copy-set, counts_place, words_receiving}
use Rattle.side.proofs.receiving.receive_copy.Goals as goal
use Rattle.side.proofs.receiving.receive_copy.Goals.{In_ok-receiving_needs}

-- what a step that goes on has: its number is 0
zero : (c : In_ok-receiving_needs) → let a = c.args in Receive.move_number (state_of a.w.now) a.desc.now a.buf.now ≡ 0
unfolding Receive.move_number
zero c = sym (rw (c.counts_of-s.ensures, words_receiving) at c.in_ok-receiving_needs.ensures)

fits : (c : In_ok-receiving_needs) → let a = c.args in Going (length a.buf.now) (state_of a.w.now)
unfolding Receive.move_number
fits c = going_receive _ _ _ _ 0 refl refl refl (zero c)

more : (c : In_ok-receiving_needs) → let s = state_of c.args.w.now in s.moved < s.len
unfolding Receive.move_number
more c = ltb-true _ _ (going_test _ _ _ _ (zero c))

moved_is : (c : In_ok-receiving_needs) → c.counts_of-s.result.moved ≡ (state_of c.args.w.now).moved
moved_is c = ap (λ (x : Counts). x.moved) c.counts_of-s.ensures

below : (c : In_ok-receiving_needs) → c.counts_of-s.result.moved < 256
below c = omega (arith, more c, moved_is c, (fits c).short)

pub returns-in_err-receiving_needs : goal.returns-in_err-receiving_needs
unfolding Receive.move_number
returns-in_err-receiving_needs c =
    let e = rw (c.counts_of-s.ensures, words_receiving) at c.in_err-receiving_needs.ensures in
    search (rules, receive-move-refused _ _ _ _ e)

pub returns : goal.returns
unfolding Receive.move_by
returns c =
    let a = c.args in
    let w = a.w.now in
    let b = a.buf.now in
    let ok = (goal.at.returns c).In_ok-receiving_needs in
    let v = get_or b (((state_of w).own + (state_of w).moved) % length b) 0 in
    let p = c.past.ensures.0 ∙ counts_place _ _ _ c.counts_of-s.ensures (fits ok) in
    rw (zero ok) (simp (c.dword_at.ensures, p, moved_is ok, copy-set v w (search rules)))

pub overflow_add-w : goal.overflow_add-w
overflow_add-w c = omega (arith, below (goal.at.overflow_add-w c).In_ok-receiving_needs)

pub offset_bounds-w-s : goal.offset_bounds-w-s
offset_bounds-w-s c = omega (arith, below (goal.at.offset_bounds-w-s c).In_ok-receiving_needs)

pub bounds-w-s : goal.bounds-w-s
bounds-w-s c = omega (arith, below (goal.at.bounds-w-s c).In_ok-receiving_needs)

pub overflow_add-w-2 : goal.overflow_add-w-2
overflow_add-w-2 c = omega (arith, below (goal.at.overflow_add-w-2 c).In_ok-receiving_needs)

pub overflow_cast-w : goal.overflow_cast-w
overflow_cast-w c = omega (arith, below (goal.at.overflow_cast-w c).In_ok-receiving_needs)
