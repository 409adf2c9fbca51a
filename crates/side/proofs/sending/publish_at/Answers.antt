-- `sending::publish_at` meets its contract: a refusal leaves all; past it the state is active and fits. Assumes nothing.
use mathlib.Core.Path.{◌≡◌, refl, sym, ◌∙◌}
use borrow.Author.Rules.{rules}
use lib.ListN.{length}
use lib.Dec.{leb}
use Rattle.ring.specs.Numbers.{first_needs, need}
use Rattle.channel.specs.Send
use Rattle.channel.specs.State.{active_send}
use Rattle.channel.proofs.Answered.{send-publish-refused}
use Rattle.channel.proofs.Going.{Going, going_send}
use Rattle.side.specs.Words.{state_of}
use Rattle.side.proofs.InWords.{counts_past, n_is, words_sending}
use Rattle.side.proofs.sending.publish_at.Goals as goal
use Rattle.side.proofs.sending.publish_at.Goals.{In_ok-sending_needs}

-- what a step that goes on has: its number is 0
zero :
    (c : In_ok-sending_needs)
    → let a = c.args in
    let s = state_of a.w.now in
    first_needs (length a.desc.now) a.n (active_send a.n s) (need (leb s.len s.moved) 12 0) ≡ 0
zero c = sym (rw (c.counts_of-s.ensures, words_sending) at c.in_ok-sending_needs.ensures)

fits : (c : In_ok-sending_needs) → let a = c.args in Going a.n (state_of a.w.now)
fits c = going_send _ _ _ _ 0 refl refl refl (zero c)

pub returns-in_err-sending_needs : goal.returns-in_err-sending_needs
unfolding Send.publish_number
returns-in_err-sending_needs c b e =
    let f = rw (c.counts_of-s.ensures, words_sending, ← e) at c.in_err-sending_needs.ensures in
    search (rules, send-publish-refused _ _ _ b f)

pub returns : goal.returns
unfolding Send.publish_by Send.publish_number
returns c b e =
    let w = c.args.w.now in
    let ok = (goal.at.returns c).In_ok-sending_needs in
    let p = c.past-tail.ensures.0 ∙ counts_past _ _ _ c.counts_of-s.ensures (fits ok) in
    rw (e, zero ok) (simp (c.publish_tail.ensures, c.idle_at.ensures, p, n_is w))
