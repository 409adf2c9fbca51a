-- `Sender::publish_at` meets its contract: a refusal leaves all; past it the state is active and fits. Assumes nothing.
use mathlib.Core.Path.{refl, sym, ◌∙◌}
use borrow.Author.Rules.{rules}
use Rattle.channel.specs.Send
use Rattle.channel.specs.State.{of_sender, of_state}
use Rattle.channel.proofs.Answered.{send-publish-refused}
use Rattle.channel.proofs.Going.{Going, going_past, going_send}
use Rattle.channel.proofs.sending.Sender.publish_at.Goals as goal
use Rattle.channel.proofs.sending.Sender.publish_at.Goals.{In_ok-go_on}

-- what a step that goes on has
fits : (c : In_ok-go_on) → let a = c.args in Going a.n (of_sender a.self.now)
fits c = going_send _ _ _ _ 0 refl refl refl (sym c.in_ok-go_on.ensures)

pub returns-in_err-go_on : goal.returns-in_err-go_on
unfolding Send.publish_number of_state
returns-in_err-go_on c b e = search (rules, send-publish-refused)

pub returns : goal.returns
unfolding Send.publish_by Send.publish_number of_state
returns c b e =
    let p = c.past-tail.ensures.0 ∙ going_past _ _ (fits (goal.at.returns c).In_ok-go_on) in
    rw (e, ← c.in_ok-go_on.ensures) (simp (c.publish_tail.ensures, p, c.idle_at-self.ensures))
