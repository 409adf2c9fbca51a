-- What is sent and handed out is what was judged. Assumes nothing.
use Prim.Native.Nat.{ℕ, ◌+◌, ◌%◌, ◌≤◌}
use mathlib.Core.Path.{◌≡◌, refl, sym, ap, ◌∙◌, subst}
use mathlib.Core.Bool.{Bool, true, ◌||◌, cond}
use mathlib.Core.List.{List, ◌++◌}
use native.Mathlib.Omega.{arith}
use native.Mathlib.Nat.{mod-eq_of_lt}
use lib.ListN.{length, get_or, take, drop, set}
use lib.Seq.{drop-append_seam, get_or-take, length-take-le, take-append_seam}
use lib.Dec.{eqb, leb}
use borrow.Author.Tests.{eq-eqb, eqb-true, leb-true}
use Rattle.message.proofs.Tests.{and_l, and_r, cases}
use Rattle.message.proofs.Formed.{message-i, well_formed_fact}
use Rattle.message.specs.Header.{is_message, total_length, well_formed}
use Rattle.runs.proofs.Ring.{window-at, window-length}
use Rattle.ring.specs.AtOnce.{length_at, message_at, receive_by, receive_number, send_by}
use Rattle.ring.specs.Numbers.{marked, need, receive_decision, take_decision}
use Rattle.ring.specs.Ring.{HEAD, head, status, tail}
use Rattle.ring.proofs.Chains.{entered_fits, entered_rest, passed, passed_rest, true_false}
use Rattle.ring.proofs.Sent.{accepted}
use Rattle.ring.proofs.Taken.{look-accepted, taken_has, total_low}
use Rattle.channel.specs.State.{State, active_receive, active_send, header, idle, second}
use Rattle.channel.specs.Outcome.{Outcome}
use Rattle.channel.specs.Send
use Rattle.channel.specs.Receive
use Rattle.channel.specs.Receive.{publish_number_of}
use Rattle.channel.proofs.Steps.{publish_long}
use Rattle.channel.proofs.Going.{Active, going_test, receive_active, send_active}
use Rattle.channel.proofs.SendAtOnce.{send-at-once, send_outcome}
use Rattle.channel.proofs.ReceiveAtOnce.{receive-at-once, receive_outcome}
use Rattle.agreement.specs.VeryDwords.{DwordStored, DwordTaken, HandedOut, HeaderTaken, IdleAgain, LookedAt}
use Rattle.agreement.specs.VeryDwords.{SameButBuffer, TailPublished, VeryDwords, WholeSent, offset_beyond}

-- a step that answers 0 has the number 0
by_number : (c : ℕ) (x y : Outcome) → y.code ≡ c → (cond (eqb c 0) x y).code ≡ 0 → c ≡ 0
by_number c x y q e =
    cases (eqb c 0) (λ t. eqb-true c 0 t) (λ t. let f : y.code ≡ 0 = rw t at e in sym q ∙ f)

-- ---- a send

module _ (s : State) (m d b : List ℕ) where
  looks_at : (Send.look s m d b).code ≡ 0 → LookedAt s m d b (Send.look s m d b)
  unfolding Send.look_by marked
  looks_at e =
      let a = accepted (idle (length b) s) s.own m d (length b) e in
      record { is_message_fact = a.is_message_fact; next = rw e refl; desc = rw e refl; buf = refl }

  whole_is : Send.whole s m d b ≡ send_outcome s (send_by (Send.look_number s m d b) s.own m d b)
  whole_is = send-at-once s m d b

  whole-number : (Send.whole s m d b).code ≡ 0 → Send.look_number s m d b ≡ 0
  unfolding send_by
  whole-number e = sym (ap (λ (x : Outcome). x.code) whole_is) ∙ e

  sends-whole : (Send.whole s m d b).code ≡ 0 → WholeSent s m d b (Send.whole s m d b)
  unfolding send_by
  sends-whole e =
      let z : Send.look_number s m d b ≡ 0 = whole-number e in
      record {
        is_message_fact = (accepted (idle (length b) s) s.own m d (length b) z).is_message_fact;
        next = ap (λ (x : Outcome). x.next) whole_is ∙ rw z refl;
        desc = ap (λ (x : Outcome). x.desc) whole_is ∙ rw z refl;
        buf = ap (λ (x : Outcome). x.buf) whole_is ∙ rw z refl;
      }

formed-copy : (n : ℕ) (s : State) → active_send n s ≡ true → well_formed (header s) (second s) ≡ true
unfolding active_send
formed-copy n s e = search (and_l, and_r)

module _ (s : State) (d b : List ℕ) where
  move-number : (Send.move s d b).code ≡ 0 → Send.move_number s d b ≡ 0
  unfolding Send.move_by
  move-number e = by_number (Send.move_number s d b) _ _ refl e

  stores : (Send.move s d b).code ≡ 0 → DwordStored s d b (Send.move s d b)
  unfolding Send.move_by Send.move_number
  stores e =
      let z = move-number e in
      let f = entered_fits (length d) (length b) (active_send (length b) s) _ 0 refl refl refl z in
      record {
        formed = formed-copy (length b) s f;
        agrees = (send_active (length b) s f).agrees;
        next = rw z refl;
        desc = rw z refl;
        buf = rw z refl;
      }

  publish-number : (Send.publish s d b).code ≡ 0 → Send.publish_number s d b ≡ 0
  unfolding Send.publish_by
  publish-number e = by_number (Send.publish_number s d b) _ _ refl e

  publishes : (Send.publish s d b).code ≡ 0 → TailPublished s d b (Send.publish s d b)
  unfolding Send.publish_by Send.publish_number
  publishes e =
      let z = publish-number e in
      let f = entered_fits (length d) (length b) (active_send (length b) s) _ 0 refl refl refl z in
      let t : s.len ≤ s.moved = leb-true s.len s.moved (going_test (length d) (length b) (active_send (length b) s) _ z) in
      let a = send_active (length b) s f in
      record {
        formed = formed-copy (length b) s f;
        agrees = a.agrees;
        all_moved = omega (arith, a.within);
        next = rw z refl;
        desc = rw z refl;
        buf = rw z refl;
      }

-- ---- a receive

module _ (s : State) (d b : List ℕ) where
  takes_header : (Receive.look s d b).code ≡ 0 → HeaderTaken s d b (Receive.look s d b)
  unfolding Receive.look_by receive_decision marked
  takes_header e =
      let r = entered_rest (length d) (length b) (idle (length b) s) _ 0 refl refl refl e in
      let a = look-accepted (length b) s.own (status d) (head d) (tail d) (get_or b s.own 0) r in
      record { there = a.whole; next = rw e refl; desc = rw e refl; buf = refl }

  takes_dword : (Receive.move s d b).code ≡ 0 → DwordTaken s d b (Receive.move s d b)
  unfolding Receive.move_by
  takes_dword e = let z : Receive.move_number s d b ≡ 0 = by_number (Receive.move_number s d b) _ _ refl e in
      record { next = rw z refl; desc = rw z refl; buf = rw z refl }

-- a message laid at the front of an output
module _ (s : State) (m o d b : List ℕ) (x : Outcome) where
  handed :
      is_message m ≡ true → x.len ≡ length m → x.out ≡ m ++ drop (length m) o
      → IdleAgain s (offset_beyond s b (length m)) x.next
      → x.desc ≡ set d HEAD (offset_beyond s b (length m)) → x.buf ≡ b → HandedOut s m o d b x
  handed f l q next desc buf =
      record {
        is_message_fact = f;
        len = l;
        laid = rw (l, q) (take-append_seam m (drop (length m) o));
        rest = rw (l, q) (drop-append_seam m (drop (length m) o));
        next = next;
        desc = desc;
        buf = buf;
      }

module _ (s : State) (o d b : List ℕ) where
  -- the number of its publish, and the dwords that it copied
  abbrev publishing : ℕ
  publishing = publish_number_of s (length o) (length d) (length b)

  abbrev copied : List ℕ
  copied = take s.len s.copy

  publish_by_fact : (c : ℕ) → (Receive.publish_by c s o d b).code ≡ 0 → c ≡ 0
  unfolding Receive.publish_by
  publish_by_fact c e =
      cases (eqb c 0)
      (λ t. eqb-true c 0 t)
      (λ t. cases (eqb c 13) (λ u. rw (t, u) at e) (λ u. rw (t, u) at e))

  -- the copy of a publish that is accepted: all there, and well formed
  publish-rest : publishing ≡ 0 → need (leb s.len s.moved) 12 (need (well_formed (header s) (second s)) 13 0) ≡ 0
  unfolding publish_number_of
  publish-rest z =
      passed_rest (leb 256 (length o)) 5 _ 0 refl (entered_rest (length d) (length b) (active_receive (length b) s) _ 0 refl refl refl z)

  publish-formed : publishing ≡ 0 → well_formed (header s) (second s) ≡ true
  publish-formed z =
      passed (well_formed (header s) (second s)) 13 0 0 refl
      (passed_rest (leb s.len s.moved) 12 _ 0 refl (publish-rest z))

  publish_active : publishing ≡ 0 → Active (length b) s
  unfolding publish_number_of
  publish_active z = receive_active (length b) s (entered_fits (length d) (length b) (active_receive (length b) s) _ 0 refl refl refl z)

  copy_is_message : length s.copy ≡ 256 → publishing ≡ 0 → is_message copied ≡ true
  copy_is_message k z =
      let a = publish_active z in
      let long : 2 ≤ s.len = publish_long s (length o) (length d) (length b) z in
      let l : length copied ≡ s.len = length-take-le s.len s.copy (omega (arith, a.short)) in
      let h : get_or copied 0 0 ≡ header s = get_or-take s.len s.copy 0 0 (omega arith) in
      let w : get_or copied 1 0 ≡ second s = get_or-take s.len s.copy 1 0 (omega arith) in
      message-i copied (l ∙ a.agrees ∙ ap total_length (sym h))
      (rw (h, w) (well_formed_fact (header s) (second s) (publish-formed z)))

  lays : length s.copy ≡ 256 → (Receive.publish s o d b).code ≡ 0 → HandedOut s copied o d b (Receive.publish s o d b)
  unfolding Receive.publish_by
  lays k e =
      let z : publishing ≡ 0 = publish_by_fact publishing e in
      let l : length copied ≡ s.len = length-take-le s.len s.copy (omega (arith, (publish_active z).short)) in
      handed s copied o d b _ (copy_is_message k z)
      (rw z (sym l)) (rw (z, l) refl) (rw (z, l) refl) (rw (z, l) refl) (rw z refl)

  -- by one number, a publish depends on the ring's length alone
  by_length :
      (k : ℕ) (c : List ℕ) → length b ≡ length c
      → SameButBuffer (Receive.publish_by k s o d b) (Receive.publish_by k s o d c)
  unfolding Receive.publish_by
  by_length k c q =
      cases (eqb k 0 || eqb k 13)
      (λ t. rw t (record { code = refl; len = refl; next = rw q refl; desc = rw q refl; out = refl }))
      (λ t. rw t (record { code = refl; len = refl; next = refl; desc = refl; out = refl }))

  ring-unread : (c : List ℕ) → length b ≡ length c → SameButBuffer (Receive.publish s o d b) (Receive.publish s o d c)
  ring-unread c q =
      subst (λ (k : ℕ). SameButBuffer (Receive.publish s o d b) (Receive.publish_by k s o d c))
      (ap (publish_number_of s (length o) (length d)) q) (by_length publishing c q)

  -- a whole receive that is accepted
  taking : ℕ
  taking = take_decision (idle (length b) s) s.own (length o) d (length b) (get_or b s.own 0)

  abbrev pending-formed : Bool
  pending-formed = well_formed (get_or b s.own 0) (get_or (message_at s.own b) 1 0)

  whole-received : Receive.whole s o d b ≡ receive_outcome s (receive_by (receive_number taking s.own b) s.own o d b)
  unfolding taking
  whole-received = receive-at-once s o d b

  whole-accepted : (Receive.whole s o d b).code ≡ 0 → receive_number taking s.own b ≡ 0
  unfolding receive_by
  whole-accepted e = sym (ap (λ (x : Outcome). x.code) whole-received) ∙ e

  whole-taken : receive_number taking s.own b ≡ 0 → (taking ≡ 0) × (pending-formed ≡ true)
  unfolding receive_number
  whole-taken z =
      cases (eqb taking 0)
      (λ t. (eqb-true taking 0 t, passed pending-formed 13 0 0 refl (rw t at z)))
      (λ t. let y : taking ≡ 0 = rw t at z in true_false (sym (eq-eqb taking 0 y) ∙ t))

  pending_is_message : receive_number taking s.own b ≡ 0 → is_message (message_at s.own b) ≡ true
  unfolding taking
  pending_is_message z =
      let p = whole-taken z in
      let a = taken_has (idle (length b) s) s.own (length o) d (length b) (get_or b s.own 0) p.0 in
      let l : length (message_at s.own b) ≡ length_at s.own b = window-length b (length b) s.own (length_at s.own b) in
      let at : get_or (message_at s.own b) 0 0 ≡ get_or b ((s.own + 0) % length b) 0
      = window-at b (length b) s.own (length_at s.own b) 0 (omega (arith, total_low (get_or b s.own 0))) in
      let own : (s.own + 0) % length b ≡ s.own = mod-eq_of_lt (omega (arith, a.below)) ∙ omega arith in
      let h : get_or (message_at s.own b) 0 0 ≡ get_or b s.own 0 = at ∙ ap (λ (i : ℕ). get_or b i 0) own in
      message-i (message_at s.own b) (l ∙ ap total_length (sym h)) (rw h (well_formed_fact _ _ p.1))

  lays_whole : (Receive.whole s o d b).code ≡ 0 → HandedOut s (message_at s.own b) o d b (Receive.whole s o d b)
  unfolding receive_by
  lays_whole e =
      let z = whole-accepted e in
      let l : length (message_at s.own b) ≡ length_at s.own b = window-length b (length b) s.own (length_at s.own b) in
      handed s (message_at s.own b) o d b _ (pending_is_message z)
      (ap (λ (x : Outcome). x.len) whole-received ∙ rw z (sym l))
      (ap (λ (x : Outcome). x.out) whole-received ∙ rw (z, l) refl)
      (ap (λ (x : Outcome). x.next) whole-received ∙ rw (z, l) refl)
      (ap (λ (x : Outcome). x.desc) whole-received ∙ rw (z, l) refl)
      (ap (λ (x : Outcome). x.buf) whole-received)

pub very_dwords : VeryDwords
very_dwords =
    record {
      send-look = looks_at;
      send-move = stores;
      send-publish = publishes;
      send-whole = sends-whole;
      receive-look = takes_header;
      receive-move = takes_dword;
      receive-publish = lays;
      ring-unread = λ s o d b c q. ring-unread s o d b c q;
      receive-whole = lays_whole;
    }
