-- `Sender::store` meets its contract: a refusal leaves all; past it the state is active and fits, so that the place lies
-- in the buffer and the dword in the copy. Assumes nothing.
use Prim.Native.Nat.{◌<◌}
use mathlib.Core.Path.{refl, sym}
use native.Mathlib.Omega.{arith}
use lib.ListN.{length}
use borrow.Author.Rules.{rules}
use borrow.Author.Tests.{ltb-true}
use Rattle.channel.specs.Send
use Rattle.channel.specs.State.{of_sender, of_state}
use Rattle.channel.proofs.Answered.{send-move-refused}
use Rattle.channel.proofs.Going.{Going, going_place, going_send, going_test}
use Rattle.channel.proofs.sending.Sender.store.Goals as goal
use Rattle.channel.proofs.sending.Sender.store.Goals.{In_ok-go_on}

-- what a step that goes on has
fits : (c : In_ok-go_on) → let a = c.args in Going (length a.buf.now) (of_sender a.self.now)
fits c = going_send _ _ _ _ 0 refl refl refl (sym c.in_ok-go_on.ensures)

more : (c : In_ok-go_on) → let s = c.args.self.now.state in s.moved < s.len
more c = ltb-true _ _ (going_test _ _ _ _ (sym c.in_ok-go_on.ensures))

in_copy : (c : In_ok-go_on) → c.args.self.now.state.moved < 256
unfolding of_state
in_copy c = omega (arith, more c, (fits c).short)

pub returns-in_err-go_on : goal.returns-in_err-go_on
unfolding Send.move_number of_state
returns-in_err-go_on c = search (rules, send-move-refused)

pub returns : goal.returns
unfolding Send.move_by Send.move_number of_state
returns c =
    let p = c.past.ensures.0 in
    rw (← c.in_ok-go_on.ensures)
    (simp (c.put.ensures, p, going_place _ _ (fits (goal.at.returns c).In_ok-go_on)))

pub offset_bounds-self-moved : goal.offset_bounds-self-moved
offset_bounds-self-moved c = omega (arith, in_copy (goal.at.offset_bounds-self-moved c).In_ok-go_on)

pub bounds-self-moved : goal.bounds-self-moved
bounds-self-moved c = omega (arith, in_copy (goal.at.bounds-self-moved c).In_ok-go_on)

pub overflow_add-self : goal.overflow_add-self
overflow_add-self c = omega (arith, in_copy (goal.at.overflow_add-self c).In_ok-go_on)
