-- `Sender::look` meets its contract: a refusal marks STATUS and leaves the state; past it the message fits the copy, and
-- its first two dwords are those that were judged. Assumes nothing.
use mathlib.Core.Path.{sym, ap, ◌∙◌}
use lib.ListN.{length}
use Rattle.message.proofs.Formed.{message_long, message-short}
use Rattle.refusal.proofs.NotZero.{number-not-0}
use Rattle.ring.specs.Numbers.{marked}
use Rattle.ring.proofs.Sent.{Accepted, accepted}
use Rattle.runs.specs.Buffer.{laid}
use Rattle.channel.specs.Send
use Rattle.channel.specs.State.{idle, of_sender, of_state, zeros}
use Rattle.channel.proofs.Fits.{loaded-zeros, two-judged}
use Rattle.channel.proofs.sending.Sender.look.Goals as goal
use Rattle.channel.proofs.sending.Sender.look.Goals.{In_default}

pub returns-in-Err : goal.returns-in-Err
unfolding Send.look_by of_state
returns-in-Err c =
    let e = rw (c.is_idle-fits.ensures, c.dword_at-word.ensures, c.dword_at-header.ensures) at c.in-Err.ensures in
    rw (c.mark.ensures, c.number.ensures, ← e, number-not-0 c.in-Err.reason)

-- an accepted look has a whole message
has :
    (c : In_default)
    → let a = c.args in
    let s = of_sender a.self.now in
    let n = length a.buf.now in
    Accepted (idle n s) s.own a.msg.now a.desc.now n
unfolding of_state
has c = accepted _ _ _ _ _ (sym (rw (c.is_idle-fits.ensures, c.dword_at-word.ensures, c.dword_at-header.ensures) at c.in_default.ensures))

pub returns : goal.returns
unfolding Send.look_by of_state marked
returns c =
    let m = c.args.msg.now in
    let f = (has (goal.at.returns c).In_default).is_message_fact in
    let z = rw (c.is_idle-fits.ensures, c.dword_at-word.ensures, c.dword_at-header.ensures) at c.in_default.ensures in
    let e =
    c.message_copy-self.ensures
    ∙ ap (λ x. laid x zeros) (two-judged m _ _ c.dword_at-header.ensures c.dword_at-word.ensures (message_long m f)) in
    rw (← z, e ∙ loaded-zeros m (message-short m f))

pub slice_bounds-message_copy-count : goal.slice_bounds-message_copy-count
slice_bounds-message_copy-count c =
    message_long _ (has (goal.at.slice_bounds-message_copy-count c).In_default).is_message_fact

pub slice_bounds-message_copy-start : goal.slice_bounds-message_copy-start
slice_bounds-message_copy-start c =
    message_long _ (has (goal.at.slice_bounds-message_copy-start c).In_default).is_message_fact
