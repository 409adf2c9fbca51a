-- `sending::place_message` meets its contract: the two dwords that were judged are the first two that are stored, and an
-- accepted look says that the message fits the ring. Assumes nothing.
use Rattle.std.proofs.Common.{Err}
use Prim.Native.Nat.{ℕ, ◌+◌, ◌≤◌}
use mathlib.Core.Bool.{Bool}
use mathlib.Core.List.{List}
use mathlib.Core.Path.{◌≡◌, refl, sym, ◌∙◌}
use native.Mathlib.Omega.{arith}
use borrow.Author.Rules.{rules}
use lib.ListN.{length, drop, length-drop}
use Rattle.message.proofs.Formed.{message_long}
use Rattle.refusal.specs.declared.Refusal.{Refusal}
use Rattle.refusal.specs.Numbers.{number}
use Rattle.ring.specs.Private.{PlacedBy}
use Rattle.ring.specs.AtOnce.{opened_by}
use Rattle.ring.specs.Numbers.{number_at, send_decision}
use Rattle.ring.proofs.Opened.{opened-length, opened-number, opened-parts}
use Rattle.ring.proofs.Sent.{Accepted, accepted, placed_refused}
use Rattle.message.proofs.Slices.{to_end}
use Rattle.runs.proofs.Straight.{stored_there}
use Rattle.runs.proofs.Offsets.{past_is}
use Rattle.ring.proofs.sending.place_message.Goals as goal
use Rattle.ring.proofs.sending.place_message.Goals.{In_ok-send_decision}

-- what an accepted look has
zero :
    (c : In_ok-send_decision)
    → let a = c.args in
    number_at a.fits a.own (opened_by a.header a.word a.msg.now) a.desc.now (length a.buf.now) ≡ 0
zero c =
    let a = c.args in
    sym (opened-number a.header a.word a.fits a.own a.msg.now a.desc.now (length a.buf.now)) ∙ sym c.in_ok-send_decision.ensures

has :
    (c : In_ok-send_decision)
    → let a = c.args in
    Accepted a.fits a.own (opened_by a.header a.word a.msg.now) a.desc.now (length a.buf.now)
has c = accepted _ _ _ _ _ (zero c)

two : (c : In_ok-send_decision) → 2 ≤ length c.args.msg.now
two c =
    let a = c.args in
    omega (arith, message_long (opened_by a.header a.word a.msg.now) (has c).is_message_fact, opened-length a.header a.word a.msg.now)

-- a refused look places nothing
refused :
    (r : Refusal) (fits : Bool) (own h w : ℕ) (m d b : List ℕ) → number r ≡ send_decision fits own (length m) h w d (length b)
    → PlacedBy (Err r) (number_at fits own (opened_by h w m) d (length b)) own (opened_by h w m) b b
refused r fits own h w m d b e = placed_refused fits own (opened_by h w m) d b r (e ∙ opened-number h w fits own m d (length b))

pub returns-in_err-send_decision : goal.returns-in_err-send_decision
returns-in_err-send_decision c = search (rules, refused)

pub slice_bounds-store_message-count : goal.slice_bounds-store_message-count
slice_bounds-store_message-count c = two (goal.at.slice_bounds-store_message-count c).In_ok-send_decision

pub slice_bounds-store_message-start : goal.slice_bounds-store_message-start
slice_bounds-store_message-start c = two (goal.at.slice_bounds-store_message-start c).In_ok-send_decision

pub returns : goal.returns
returns c =
    let a = c.args in
    let m = a.msg.now in
    let sent = opened_by a.header a.word m in
    let there = (goal.at.returns c).In_ok-send_decision in
    let s = c.store_message.ensures in
    let h = has there in
    let o = opened-length a.header a.word m in
    let l : 2 + length (drop 2 m) ≡ length sent = simp length-drop (omega (arith, two there, o)) in
    let parts = rw (to_end 2 m, ← opened-parts a.header a.word m (two there)) at s.0 in
    let ring = parts ∙ stored_there _ _ sent h.below (omega (arith, h.room)) in
    let tail = rw (to_end 2 m, l) at s.1 ∙ past_is _ _ _ h.below (omega (arith, h.room)) h.enters.high in
    rw (zero there) (record { code = refl; own-tail = tail; small = λ _. s.2; ring = ring })
