-- `sending::send_look` meets its contract: past a refusal the words are idle and the message fits the copy, and its first
-- two dwords are those that were judged. Assumes nothing.
use mathlib.Core.Path.{◌≡◌, refl, sym, ap, ◌∙◌}
use native.Mathlib.Omega.{arith}
use lib.ListN.{length, length-take, length-drop}
use borrow.Author.Rules.{rules}
use Rattle.message.proofs.Formed.{message_long, message-short}
use Rattle.refusal.proofs.NotZero.{number-not-0}
use Rattle.ring.proofs.Sent.{Accepted, accepted}
use Rattle.channel.specs.Send
use Rattle.channel.specs.State.{idle}
use Rattle.channel.specs.declared.state.Counts.{Counts}
use Rattle.channel.proofs.Fits.{two-judged}
use Rattle.side.specs.Words.{state_of}
use Rattle.side.proofs.InWords.{idle_words, looked_send, marked-none}
use Rattle.side.proofs.sending.send_look.Goals as goal
use Rattle.side.proofs.sending.send_look.Goals.{In_default}

-- an accepted look: its number, and what it has
zero : (c : In_default) → let a = c.args in Send.look_number (state_of a.w.now) a.msg.now a.desc.now a.buf.now ≡ 0
zero c =
    let own = ap (λ (x : Counts). x.own) c.counts_of-s.ensures in
    sym (rw (c.dword_at-word.ensures, c.dword_at-header.ensures, c.is_idle-fits.ensures, own) at c.in_default.ensures)

has :
    (c : In_default)
    → let a = c.args in
    let s = state_of a.w.now in
    let n = length a.buf.now in
    Accepted (idle n s) s.own a.msg.now a.desc.now n
has c = accepted _ _ _ _ _ (zero c)

pub returns-in-Err : goal.returns-in-Err
unfolding Send.look_by
returns-in-Err c =
    let own = ap (λ (x : Counts). x.own) c.counts_of-s.ensures in
    let e = rw (c.dword_at-word.ensures, c.dword_at-header.ensures, c.is_idle-fits.ensures, own) at c.in-Err.ensures in
    rw (c.mark.ensures, c.number.ensures, ← e, number-not-0 c.in-Err.reason)

pub load-requires : goal.load-requires
load-requires c =
    let h = has (goal.at.load-requires c).In_default in
    let a = c.args in
    let m = a.msg.now in
    let i = idle_words _ a.w.now (search rules) h.is_fit in
    let f = h.is_message_fact in (
      search rules,
      simp (length-take, length-drop) (omega (arith, message_long m f, message-short m f)),
      i.no_moved,
      i.no_copy,
    )

pub returns : goal.returns
returns c =
    let a = c.args in
    let m = a.msg.now in
    let looked = (goal.at.returns c).In_default in
    let whole = two-judged m _ _ c.dword_at-header.ensures c.dword_at-word.ensures (message_long m (has looked).is_message_fact) in
    let e = c.load.ensures ∙ ap (Send.loaded (state_of a.w.now)) whole in
    looked_send a.w.now m a.desc.now a.buf.now _ _ 0 (sym (zero looked)) refl (sym (marked-none a.desc.now)) e

pub slice_bounds-load-count : goal.slice_bounds-load-count
slice_bounds-load-count c = message_long _ (has (goal.at.slice_bounds-load-count c).In_default).is_message_fact

pub slice_bounds-load-start : goal.slice_bounds-load-start
slice_bounds-load-start c = message_long _ (has (goal.at.slice_bounds-load-start c).In_default).is_message_fact
