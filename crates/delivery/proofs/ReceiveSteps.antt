-- Each step of a receive answers as the plain channel does, and keeps the invariant. Assumes nothing.
use mathlib.Core.Path.{◌≡◌, refl, sym, ap, ◌∙◌}
use mathlib.Core.Logic.{◌≢◌}
use mathlib.Core.Bool.{Bool, true, false}
use mathlib.Core.List.{List, [], ◌∷◌, ◌++◌}
use Prim.Native.Nat.{ℕ, suc, ◌+◌, ◌-◌, ◌%◌, ◌≤◌, ◌<◌}
use native.Mathlib.Nat.{mod-add-mod}
use native.Mathlib.Omega.{arith}
use native.Mathlib.Numerals.{add-one}
use borrow.Author.Tests.{leb-true, eqb-false, le-leb, ne_eqb}
use lib.ListN.{length, get_or, take, drop, set, replicate, get_or-append, length-append}
use lib.Seq.{take-suc, take_all, get_or-take, length-take-le, set_at, append_snoc, take-append_seam, drop-append_seam, drop_at}
use lib.Dec.{leb, eqb}
use Rattle.message.specs.Header.{is_message, total_length, well_formed}
use Rattle.message.proofs.Formed.{message-formed, message-length, message_long, message-short}
use Rattle.ring.specs.Numbers.{marked, need, receive_decision, receive_look_needs}
use Rattle.channel.specs.Outcome.{Outcome}
use Rattle.runs.specs.Buffer.{window}
use Rattle.channel.specs.State.{active_receive, idle}
use Rattle.channel.specs.Receive
use Rattle.ring.proofs.Chains.{ok}
use Rattle.message.proofs.Tests.{cases}
use Rattle.channel.proofs.Fits.{busy_active_receive, busy-idle, idle_active_receive, idle-idle}
use Rattle.runs.proofs.Ring.{window-append, window-at, window-length}
use Rattle.delivery.specs.Plain.{PlainOutcome, Plain, Receiving, Sending, descriptor}
use Rattle.delivery.specs.Plain.{first, not_receiving, not_sending, receiving, sending}
use Rattle.delivery.specs.Plain
use Rattle.delivery.proofs.Invariant.{Inv, InvSend, bad, below_is, empty-receiving}
use Rattle.delivery.proofs.Invariant.{first-needs_ok, look-needs-receive, own-receive, plain, receive_state}
use Rattle.delivery.proofs.Invariant.{receiver_of, sender_of, used_eq}
use Rattle.delivery.proofs.Queue.{flat}

abbrev pub as_receiver : PlainOutcome → Outcome
as_receiver x =
    record { code = x.code; len = x.len; next = receiver_of x.next; desc = descriptor x.next; buf = x.next.buf; out = x.out }

pub record ReceiveSim (p : Plain) (a : Outcome) (x : PlainOutcome) : Type 0 where
  pub same : a ≡ as_receiver x
  pub other : sender_of x.next ≡ sender_of p
  pub good : Inv x.next

module _ (n : ℕ) (b : List ℕ) (P R : ℕ) (s : Sending) where
  -- the plain channel, by its queue and receiver
  abbrev chan : List (List ℕ) → Receiving → Plain
  chan q r = plain n b q P R s r

  -- ---- what is read of the first message

  module _ (m : List ℕ) (q : List (List ℕ)) (r : Receiving) (g : Inv (chan (m ∷ q) r)) where
    first-size : length (flat (m ∷ q)) ≡ length m + length (flat q)
    unfolding flat
    first-size = length-append m (flat q)

    first-dword : (j : ℕ) → j < length m → get_or b ((R + j) % n) 0 ≡ get_or m j 0
    unfolding flat
    first-dword j h =
        sym (window-at b n R (length (flat (m ∷ q))) j (omega (arith, first-size)))
        ∙ ap (λ (l : List ℕ). get_or l j 0) g.in_buffer ∙ get_or-append m (flat q) 0 j h

    first-header : get_or b (R % n) 0 ≡ get_or m 0 0
    first-header =
        let e : R ≡ R + 0 = omega arith in
        ap (λ (x : ℕ). get_or b (x % n) 0) e ∙ first-dword 0 (omega (arith, message_long m g.all-messages.0))

    first-length : total_length (get_or b (R % n) 0) ≡ length m
    first-length = ap total_length first-header ∙ sym (message-length m g.all-messages.0)

    nonempty : length (flat (m ∷ q)) ≢ 0
    nonempty e = omega (arith, first-size, message_long m g.all-messages.0)

  -- ---- look

  pub fits-idle : (q : List (List ℕ)) → Inv (chan q not_receiving) → idle (length b) (receive_state n R (first q) not_receiving) ≡ true
  fits-idle q g = rw g.size (idle-idle n (R % n) (own-receive _ g))

  pub fits_not :
      (q : List (List ℕ)) (k : ℕ) → Inv (chan q (receiving k))
      → idle (length b) (receive_state n R (first q) (receiving k)) ≡ false
  fits_not q k g =
      rw g.size
      (busy-idle n (R % n) (own-receive _ g) (length (first q)) k _
      (omega (arith, message_long (first q) g.receive.is_message_fact)))

  look-code :
      (q : List (List ℕ)) (r : Receiving) → Inv (chan q r)
      → Receive.look_number (receive_state n R (first q) r) (descriptor (chan q r)) b ≡ Plain.receive_look_number (chan q r)
  unfolding receive_decision receive_look_needs Plain.receive_look_number
  look-code [] not_receiving g =
      first-needs_ok _ g _ _ ∙ ok 3 (fits-idle [] g) ∙ look-needs-receive _ g _ ∙ rw (used_eq _ g) (unfold flat need in refl)
  look-code (m ∷ q) not_receiving g =
      let l = le-leb (length m) (length (flat (m ∷ q))) (omega (arith, first-size m q not_receiving g)) in
      first-needs_ok _ g _ _
      ∙ ok 3 (fits-idle (m ∷ q) g)
      ∙ look-needs-receive _ g _
      ∙ rw (used_eq _ g, ne_eqb _ 0 (nonempty m q not_receiving g), first-length m q not_receiving g, l) (unfold need in refl)
  look-code q (receiving k) g = first-needs_ok _ g _ _ ∙ bad _ (fits_not q k g)

  sim_look :
      (q : List (List ℕ)) (r : Receiving) → Inv (chan q r)
      → ReceiveSim (chan q r) (Receive.look (receive_state n R (first q) r) (descriptor (chan q r)) b) (Plain.receive_look (chan q r))
  unfolding Receive.look_by marked Plain.receive_look_by Plain.receive_look_number descriptor need
  sim_look [] not_receiving g = rw (look-code [] not_receiving g) (record { same = refl; other = refl; good = g })
  sim_look (m ∷ q) not_receiving g =
      let long : 2 ≤ length m = message_long m g.all-messages.0 in
      let one : get_or m 0 0 ∷ [] ≡ take 1 m = sym (take-suc m 0 0 (omega arith)) in
      rw (look-code (m ∷ q) not_receiving g)
      (record {
        same =
            λ i. record {
              code = 0;
              len = 0;
              next =
                  record {
                    n = n;
                    own = R % n;
                    len = first-length m q not_receiving g i;
                    moved = 1;
                    copy = (ap (λ (x : ℕ). x ∷ []) (first-header m q not_receiving g) ∙ one) i ++ replicate 255 0;
                  };
              desc = descriptor (chan (m ∷ q) not_receiving);
              buf = b;
              out = [];
            };
        other = refl;
        good =
            record {
              allowed-n = g.allowed-n;
              size = g.size;
              count = g.count;
              room = g.room;
              in_buffer = g.in_buffer;
              all-messages = g.all-messages;
              send = g.send;
              receive = record { is_message_fact = g.all-messages.0; start = omega arith; up_to = omega arith };
            };
      })
  sim_look q (receiving k) g = rw (look-code q (receiving k) g) (record { same = refl; other = refl; good = g })

  -- ---- move

  -- the receiver's copy when k dwords of m are moved
  abbrev copied : ℕ → List ℕ → List ℕ
  copied k m = take k m ++ replicate (256 - k) 0

  module _ (k : ℕ) (m : List ℕ) (j : ℕ) (lo : j < k) (hi : k ≤ length m) where
    copied_at : get_or (copied k m) j 0 ≡ get_or m j 0
    copied_at =
        get_or-append (take k m) (replicate (256 - k) 0) 0 j (omega (arith, length-take-le k m hi)) ∙ get_or-take k m j 0 lo

  fits_active :
      (q : List (List ℕ)) (k : ℕ) → Inv (chan q (receiving k))
      → active_receive (length b) (receive_state n R (first q) (receiving k)) ≡ true
  fits_active q k g =
      let f : is_message (first q) ≡ true = g.receive.is_message_fact in
      let l : 2 ≤ length (first q) = message_long (first q) f in
      let lo : 1 ≤ k = g.receive.start in
      let hi : k ≤ length (first q) = g.receive.up_to in
      let e : length (first q) ≡ total_length (get_or (copied k (first q)) 0 0) =
      message-length (first q) f ∙ ap total_length (sym (copied_at k (first q) 0 lo hi)) in
      rw g.size
      (busy_active_receive n (R % n) (own-receive _ g) (length (first q)) k _ (omega arith) (message-short (first q) f) lo hi e)

  fits_not_active :
      (q : List (List ℕ)) → Inv (chan q not_receiving)
      → active_receive (length b) (receive_state n R (first q) not_receiving) ≡ false
  fits_not_active q g = rw g.size (idle_active_receive n (R % n) (own-receive _ g))

  move-code :
      (q : List (List ℕ)) (r : Receiving) → Inv (chan q r)
      → Receive.move_number (receive_state n R (first q) r) (descriptor (chan q r)) b ≡ Plain.receive_move_number (chan q r)
  unfolding Receive.move_number Plain.receive_move_number
  move-code q not_receiving g = first-needs_ok _ g _ _ ∙ bad _ (fits_not_active q g)
  move-code q (receiving k) g =
      first-needs_ok _ g _ _ ∙ ok 3 (fits_active q k g)
      ∙ ap (λ (t : Bool). need t 12 0) (below_is k (length (first q)) g.receive.up_to)

  copy_on :
      (q : List (List ℕ)) (k : ℕ) → Inv (chan q (receiving k)) → k < length (first q)
      → set (copied k (first q)) k (get_or b ((R % n + k) % length b) 0) ≡ copied (k + 1) (first q)
  copy_on [] k g h = empty-receiving k g.receive
  copy_on (m ∷ q) k g h =
      let e : 256 - k ≡ suc (256 - (k + 1)) = omega (arith, message-short m g.receive.is_message_fact) in
      let v : get_or b ((R % n + k) % length b) 0 ≡ get_or m k 0 = rw (g.size, mod-add-mod) (first-dword m q (receiving k) g k h) in
      let z : List ℕ = replicate (256 - (k + 1)) 0 in
      let t : take k m ++ (get_or m k 0 ∷ []) ≡ take (k + 1) m =
      sym (take-suc m k 0 h) ∙ ap (λ (x : ℕ). take x m) (sym (add-one k)) in
      ap (λ (x : ℕ). set (take k m ++ replicate x 0) k (get_or b ((R % n + k) % length b) 0)) e
      ∙ set_at (take k m) 0 z _ k (length-take-le k m (omega arith))
      ∙ ap (λ (x : ℕ). take k m ++ x ∷ z) v
      ∙ sym (append_snoc (take k m) (get_or m k 0) z)
      ∙ ap (λ (l : List ℕ). l ++ z) t

  sim_move :
      (q : List (List ℕ)) (r : Receiving) → Inv (chan q r)
      → ReceiveSim (chan q r) (Receive.move (receive_state n R (first q) r) (descriptor (chan q r)) b) (Plain.receive_move (chan q r))
  unfolding Receive.move_by Plain.receive_move_by Plain.receive_move_number descriptor need
  sim_move q not_receiving g = rw (move-code q not_receiving g) (record { same = refl; other = refl; good = g })
  sim_move q (receiving k) g =
      rw (move-code q (receiving k) g)
      (cases (eqb k (length (first q)))
      (λ e. rw e (record { same = refl; other = refl; good = g }))
      (λ e.
      let d : k ≢ length (first q) = eqb-false k (length (first q)) e in
      let h : k < length (first q) = omega (arith, g.receive.up_to) in
      rw e
      (record {
        same = rw (copy_on q k g h);
        other = refl;
        good =
            record {
              allowed-n = g.allowed-n;
              size = g.size;
              count = g.count;
              room = g.room;
              in_buffer = g.in_buffer;
              all-messages = g.all-messages;
              send = g.send;
              receive = record { is_message_fact = g.receive.is_message_fact; start = omega arith; up_to = omega arith };
            };
      })))

  -- ---- publish

  pub_code :
      (q : List (List ℕ)) (r : Receiving) (o : List ℕ) → Inv (chan q r)
      → Receive.publish_number (receive_state n R (first q) r) o (descriptor (chan q r)) b ≡ Plain.receive_publish_number (chan q r) o
  unfolding Receive.publish_number_of Plain.receive_publish_number
  pub_code q not_receiving o g = first-needs_ok _ g _ _ ∙ bad _ (fits_not_active q g)
  pub_code q (receiving k) o g =
      first-needs_ok _ g _ _
      ∙ ok 3 (fits_active q k g)
      ∙ ap (need (leb 256 (length o)) 5) (cases (leb (length (first q)) k)
      (λ e. ap (need (leb (length (first q)) k) 12) (ok 13 (copy-formed e)))
      (λ e. bad _ e ∙ sym (bad _ e)))
    where
      copy-formed :
          leb (length (first q)) k ≡ true → well_formed (get_or (copied k (first q)) 0 0) (get_or (copied k (first q)) 1 0) ≡ true
      copy-formed e =
          let h : length (first q) ≤ k = leb-true (length (first q)) k e in
          let f : is_message (first q) ≡ true = g.receive.is_message_fact in
          let l : 2 ≤ length (first q) = message_long (first q) f in
          let hi : k ≤ length (first q) = g.receive.up_to in
          rw (copied_at k (first q) 0 g.receive.start hi, copied_at k (first q) 1 (omega arith) hi) (message-formed (first q) f)

  shorter_s :
      (m : List ℕ) (q : List (List ℕ)) (x : Sending) → length (flat (m ∷ q)) ≡ length m + length (flat q)
      → InvSend n b (m ∷ q) P x
      → InvSend n b q P x
  shorter_s m q not_sending e g = tt
  shorter_s m q (sending k y) e g = record { is_message_fact = g.is_message_fact; up_to = g.up_to; fits = omega (arith, g.fits); done = g.done }

  released_good :
      (m : List ℕ) (q : List (List ℕ)) (r : Receiving) → Inv (chan (m ∷ q) r)
      → Inv (plain n b q P (R + length m) s not_receiving)
  unfolding flat
  released_good m q r g =
      let e : length (flat (m ∷ q)) ≡ length m + length (flat q) = first-size m q r g in
      let w : List ℕ = window b n R (length m) in
      let t : w ++ window b n (R + length m) (length (flat q)) ≡ m ++ flat q =
      sym (window-append b n R (length m) (length (flat q))) ∙ ap (λ (x : ℕ). window b n R x) (sym e)
      ∙ g.in_buffer in
      record {
        allowed-n = g.allowed-n;
        size = g.size;
        count = omega (arith, g.count);
        room = omega (arith, g.room);
        in_buffer =
            sym (drop_at w _ (length m) (window-length b n R (length m))) ∙ ap (drop (length m)) t
            ∙ drop-append_seam m (flat q);
        all-messages = g.all-messages.1;
        send = shorter_s m q s e g.send;
        receive = tt;
      }

  out_eq :
      (m : List ℕ) (k : ℕ) (o : List ℕ) → length m ≤ k
      → take (length m) (take k m ++ replicate (256 - k) 0) ++ drop (length m) o ≡ m ++ drop (length m) o
  out_eq m k o h =
      ap (λ (l : List ℕ). take (length m) (l ++ replicate (256 - k) 0) ++ drop (length m) o) (take_all k m h)
      ∙ ap (λ (l : List ℕ). l ++ drop (length m) o) (take-append_seam m (replicate (256 - k) 0))

  sim_pub :
      (q : List (List ℕ)) (r : Receiving) (o : List ℕ) → Inv (chan q r)
      → ReceiveSim (chan q r) (Receive.publish (receive_state n R (first q) r) o (descriptor (chan q r)) b)
      (Plain.receive_publish (chan q r) o)
  unfolding Receive.publish_by Plain.receive_publish_by Plain.receive_publish_number descriptor need
  sim_pub q not_receiving o g = rw (pub_code q not_receiving o g) (record { same = refl; other = refl; good = g })
  sim_pub [] (receiving k) o g = empty-receiving k g.receive
  sim_pub (m ∷ q) (receiving k) o g =
      let w : (R % n + length m) % length b ≡ (R + length m) % n = rw (g.size, mod-add-mod) in
      rw (pub_code (m ∷ q) (receiving k) o g)
      (cases (leb 256 (length o))
      (λ e. cases (leb (length m) k)
      (λ f. rw (e, f)
      (record {
        same = rw (out_eq m k o (leb-true (length m) k f), w);
        other = refl;
        good = released_good m q (receiving k) g;
      }))
      (λ f. rw (e, f) (record { same = refl; other = refl; good = g })))
      (λ e. rw e (record { same = refl; other = refl; good = g })))

-- ---- over the plain channel as it stands

module _ (p : Plain) (g : Inv p) where
  pub look_sim : ReceiveSim p (Receive.look (receiver_of p) (descriptor p) p.buf) (Plain.receive_look p)
  look_sim = sim_look p.n p.buf p.P p.R p.send p.queue p.receive g

  pub move_sim : ReceiveSim p (Receive.move (receiver_of p) (descriptor p) p.buf) (Plain.receive_move p)
  move_sim = sim_move p.n p.buf p.P p.R p.send p.queue p.receive g

  pub pub_sim : (o : List ℕ) → ReceiveSim p (Receive.publish (receiver_of p) o (descriptor p) p.buf) (Plain.receive_publish p o)
  pub_sim o = sim_pub p.n p.buf p.P p.R p.send p.queue p.receive o g
