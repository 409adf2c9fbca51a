-- Each step of a send, and a whole send, answers as the plain channel does, and keeps the invariant. Assumes nothing.
use mathlib.Core.Path.{◌≡◌, refl, sym, ap, ◌∙◌}
use mathlib.Core.Logic.{◌≢◌}
use mathlib.Core.Bool.{Bool, true, false}
use mathlib.Core.List.{List, [], ◌∷◌, ◌++◌}
use Prim.Native.Nat.{ℕ, zero, suc, ◌+◌, ◌-◌, ◌%◌, ◌≤◌, ◌<◌}
use native.Mathlib.Nat.{mod-lt, mod-add-mod}
use native.Mathlib.Omega.{arith}
use native.Mathlib.Numerals.{add-one}
use borrow.Author.Tests.{leb-true, eqb-false}
use lib.ListN.{length, get_or, take, set, replicate, get_or-append, length-set, length-append}
use lib.Seq.{get_or-set_same, take-suc, take_all}
use lib.Dec.{leb, eqb}
use Rattle.message.specs.Header.{is_message, total_length}
use Rattle.message.proofs.Formed.{message-formed, message-length, message_long, message-short}
use Rattle.ring.specs.Numbers.{marked, need, send_decision, send_look_needs}
use Rattle.channel.specs.Outcome.{Outcome}
use Rattle.ring.specs.Ring.{free, head, tail}
use Rattle.runs.specs.Buffer.{window}
use Rattle.channel.specs.State.{active_send, idle}
use Rattle.channel.specs.Steps.{moves}
use Rattle.channel.specs.Send
use Rattle.ring.proofs.Chains.{ok}
use Rattle.message.proofs.Tests.{cases}
use Rattle.channel.proofs.Fits.{busy_active_send, busy-idle, idle_active_send, idle-idle}
use Rattle.runs.proofs.Ring.{apart, window-append, window-set}
use Rattle.delivery.specs.Plain.{PlainOutcome, Plain, Receiving, Sending, descriptor}
use Rattle.delivery.specs.Plain.{first, not_receiving, not_sending, receiving, sending}
use Rattle.delivery.specs.Plain
use Rattle.delivery.proofs.Invariant.{AllMessages, Inv, InvReceive, bad, below_is, empty-receiving}
use Rattle.delivery.proofs.Invariant.{first-needs_ok, look-needs-send, n-low, own-send, plain, receive_state}
use Rattle.delivery.proofs.Invariant.{receiver_of, send_state, sender_of, used_eq}
use Rattle.delivery.proofs.Queue.{flat, flat_snoc}

abbrev pub as_sender : PlainOutcome → Outcome
as_sender x =
    record { code = x.code; len = x.len; next = sender_of x.next; desc = descriptor x.next; buf = x.next.buf; out = x.out }

pub record SendSim (p : Plain) (a : Outcome) (x : PlainOutcome) : Type 0 where
  pub same : a ≡ as_sender x
  pub other : receiver_of x.next ≡ receiver_of p
  pub good : Inv x.next

module _ (n : ℕ) (b : List ℕ) (q : List (List ℕ)) (P R : ℕ) (r : Receiving) where
  -- the plain channel, by its sender
  abbrev chan : Sending → Plain
  chan s = plain n b q P R s r

  -- ---- look

  fits-idle : Inv (chan not_sending) → idle (length b) (send_state n P not_sending) ≡ true
  fits-idle g = rw g.size (idle-idle n (P % n) (own-send _ g))

  fits_not : (k : ℕ) (m : List ℕ) → Inv (chan (sending k m)) → idle (length b) (send_state n P (sending k m)) ≡ false
  fits_not k m g = rw g.size (busy-idle n (P % n) (own-send _ g) (length m) k _ (omega (arith, message_long m g.send.is_message_fact)))

  free_eq :
      (s : Sending) (g : Inv (chan s))
      → free (length b) (head (descriptor (chan s))) (tail (descriptor (chan s))) ≡ n - 1 - (P - R)
  unfolding free
  free_eq s g = rw (used_eq _ g, g.size) (omega (arith, g.count))

  look-code :
      (s : Sending) (m : List ℕ) → Inv (chan s)
      → Send.look_number (send_state n P s) m (descriptor (chan s)) b ≡ Plain.send_look_number (chan s) m
  unfolding send_decision send_look_needs is_message Plain.send_look_number
  look-code not_sending m g =
      first-needs_ok _ g _ _ ∙ ok 3 (fits-idle g)
      ∙ ap (need (is_message m) 4)
      (look-needs-send _ g _ ∙ ap (λ (x : ℕ). need (leb (length m) x) 10 0) (free_eq not_sending g))
  look-code (sending k m₀) m g = first-needs_ok _ g _ _ ∙ bad _ (fits_not k m₀ g)

  sim_look :
      (s : Sending) (m : List ℕ) → Inv (chan s)
      → SendSim (chan s) (Send.look (send_state n P s) m (descriptor (chan s)) b) (Plain.send_look (chan s) m)
  unfolding Send.look_by marked Plain.send_look_by Plain.send_look_number descriptor need window
  sim_look not_sending m g =
      rw (look-code not_sending m g)
      (cases (is_message m)
      (λ f. cases (leb (length m) (n - 1 - (P - R)))
      (λ l. rw (f, l)
      (record {
        same = refl;
        other = refl;
        good =
            record {
              allowed-n = g.allowed-n;
              size = g.size;
              count = g.count;
              room = g.room;
              in_buffer = g.in_buffer;
              all-messages = g.all-messages;
              send =
                  record {
                    is_message_fact = f;
                    up_to = omega arith;
                    fits = omega (arith, leb-true (length m) (n - 1 - (P - R)) l, g.count, n-low (chan not_sending) g);
                    done = refl;
                  };
              receive = g.receive;
            };
      }))
      (λ l. rw (f, l) (record { same = refl; other = refl; good = g })))
      (λ f. rw f (record { same = refl; other = refl; good = g })))
  sim_look (sending k m₀) m g = rw (look-code (sending k m₀) m g) (record { same = refl; other = refl; good = g })

  -- ---- move

  fits_active : (k : ℕ) (m : List ℕ) → Inv (chan (sending k m)) → active_send (length b) (send_state n P (sending k m)) ≡ true
  fits_active k m g =
      let f : is_message m ≡ true = g.send.is_message_fact in
      let l : 2 ≤ length m = message_long m f in
      let z : List ℕ = replicate (256 - length m) 0 in
      let e₀ : get_or (m ++ z) 0 0 ≡ get_or m 0 0 = get_or-append m z 0 0 (omega arith) in
      let e₁ : get_or (m ++ z) 1 0 ≡ get_or m 1 0 = get_or-append m z 0 1 (omega arith) in
      rw g.size
      (busy_active_send n (P % n) (own-send _ g) (length m) k (m ++ z) l (message-short m f) g.send.up_to
      (message-length m f ∙ ap total_length (sym e₀)) (rw (e₀, e₁) (message-formed m f)))

  fits_not_active : Inv (chan not_sending) → active_send (length b) (send_state n P not_sending) ≡ false
  fits_not_active g = rw g.size (idle_active_send n (P % n) (own-send _ g))

  move-code : (s : Sending) → Inv (chan s) → Send.move_number (send_state n P s) (descriptor (chan s)) b ≡ Plain.send_move_number (chan s)
  unfolding Send.move_number Plain.send_move_number
  move-code not_sending g = first-needs_ok _ g _ _ ∙ bad _ (fits_not_active g)
  move-code (sending k m) g =
      first-needs_ok _ g _ _ ∙ ok 3 (fits_active k m g) ∙ ap (λ (t : Bool). need t 12 0) (below_is k (length m) g.send.up_to)

  -- the store, and what it leaves: `v` for the dword stored
  module _ (k : ℕ) (m : List ℕ) (g : Inv (chan (sending k m))) (h : k < length m) where
    store_eq : set b ((P % n + k) % length b) (get_or (m ++ replicate (256 - length m) 0) k 0) ≡ set b ((P + k) % n) (get_or m k 0)
    store_eq = rw (g.size, mod-add-mod, get_or-append m (replicate (256 - length m) 0) 0 k h)

    store_held : window (set b ((P + k) % n) (get_or m k 0)) n R (length (flat q)) ≡ flat q
    store_held =
        window-set b n R (length (flat q)) ((P + k) % n) (get_or m k 0)
        (λ t lo hi. apart n t (P + k) (omega (arith, g.count)) (omega (arith, g.count, g.send.fits)))
        ∙ g.in_buffer

    store_done : window (set b ((P + k) % n) (get_or m k 0)) n P (k + 1) ≡ take (k + 1) m
    unfolding window
    store_done =
        let c : List ℕ = set b ((P + k) % n) (get_or m k 0) in
        let o : (P + k) % n < length b = rw g.size (mod-lt (P + k) (omega (arith, n-low (chan (sending k m)) g))) in
        let w : window c n P k ≡ take k m =
        window-set b n P k ((P + k) % n) (get_or m k 0)
        (λ t lo hi. apart n t (P + k) (omega arith) (omega (arith, g.send.fits)))
        ∙ g.send.done in
        let v : get_or c ((P + k) % n) 0 ≡ get_or m k 0 = get_or-set_same b ((P + k) % n) (get_or m k 0) 0 o in
        window-append c n P k 1 ∙ (λ i. w i ++ (v i ∷ [])) ∙ sym (take-suc m k 0 h) ∙ ap (λ (x : ℕ). take x m) (sym (add-one k))

    store_good : Inv (plain n (set b ((P + k) % n) (get_or m k 0)) q P R (sending (k + 1) m) r)
    store_good =
        record {
          allowed-n = g.allowed-n;
          size = length-set b _ _ ∙ g.size;
          count = g.count;
          room = g.room;
          in_buffer = store_held;
          all-messages = g.all-messages;
          send = record { is_message_fact = g.send.is_message_fact; up_to = omega arith; fits = g.send.fits; done = store_done };
          receive = g.receive;
        }

  sim_move :
      (s : Sending) → Inv (chan s)
      → SendSim (chan s) (Send.move (send_state n P s) (descriptor (chan s)) b) (Plain.send_move (chan s))
  unfolding Send.move_by Plain.send_move_by Plain.send_move_number Plain.send_moved descriptor need
  sim_move not_sending g = rw (move-code not_sending g) (record { same = refl; other = refl; good = g })
  sim_move (sending k m) g =
      rw (move-code (sending k m) g)
      (cases (eqb k (length m))
      (λ e. rw e (record { same = refl; other = refl; good = g }))
      (λ e.
      let d : k ≢ length m = eqb-false k (length m) e in
      let h : k < length m = omega (arith, g.send.up_to) in
      rw e (record { same = rw (store_eq k m g h); other = refl; good = store_good k m g h })))

  -- ---- publish

  pub_code :
      (s : Sending) → Inv (chan s)
      → Send.publish_number (send_state n P s) (descriptor (chan s)) b ≡ Plain.send_publish_number (chan s)
  unfolding Send.publish_number Plain.send_publish_number
  pub_code not_sending g = first-needs_ok _ g _ _ ∙ bad _ (fits_not_active g)
  pub_code (sending k m) g = first-needs_ok _ g _ _ ∙ ok 3 (fits_active k m g)

  snoc_formed : (u : List (List ℕ)) (m : List ℕ) → AllMessages u → is_message m ≡ true → AllMessages (u ++ (m ∷ []))
  snoc_formed [] m a f = (f, tt)
  snoc_formed (x ∷ u) m a f = (a.0, snoc_formed u m a.1 f)

  snoc_r : (u : List (List ℕ)) (m : List ℕ) (x : Receiving) → InvReceive u x → InvReceive (u ++ (m ∷ [])) x
  snoc_r u m not_receiving c = tt
  snoc_r [] m (receiving k) c = empty-receiving k c
  snoc_r (y ∷ u) m (receiving k) c = record { is_message_fact = c.is_message_fact; start = c.start; up_to = c.up_to }

  snoc_other :
      (u : List (List ℕ)) (m : List ℕ) (x : Receiving) → InvReceive u x
      → receive_state n R (first (u ++ (m ∷ []))) x ≡ receive_state n R (first u) x
  snoc_other u m not_receiving c = refl
  snoc_other [] m (receiving k) c = empty-receiving k c
  snoc_other (y ∷ u) m (receiving k) c = refl

  module _ (k : ℕ) (m : List ℕ) (g : Inv (chan (sending k m))) (h : length m ≤ k) where
    pub_own : (P % n + length m) % length b ≡ (P + length m) % n
    pub_own = rw (g.size, mod-add-mod)

    pub_size : length (flat (q ++ (m ∷ []))) ≡ length (flat q) + length m
    pub_size = rw (flat_snoc, length-append)

    pub_held : window b n R (length (flat (q ++ (m ∷ [])))) ≡ flat (q ++ (m ∷ []))
    pub_held =
        let e : k ≡ length m = omega (arith, g.send.up_to) in
        let d : window b n P (length m) ≡ take (length m) m = rw e at g.send.done in
        let w : window b n (R + length (flat q)) (length m) ≡ m =
        ap (λ (x : ℕ). window b n x (length m)) (sym g.count) ∙ d ∙ take_all (length m) m (omega arith) in
        rw (pub_size, flat_snoc) (window-append b n R (length (flat q)) (length m) ∙ (λ i. g.in_buffer i ++ w i))

    pub_good : Inv (plain n b (q ++ (m ∷ [])) (P + length m) R not_sending r)
    pub_good =
        record {
          allowed-n = g.allowed-n;
          size = g.size;
          count = rw pub_size (omega (arith, g.count));
          room = rw pub_size g.send.fits;
          in_buffer = pub_held;
          all-messages = snoc_formed q m g.all-messages g.send.is_message_fact;
          send = tt;
          receive = snoc_r q m r g.receive;
        }

  sim_pub :
      (s : Sending) → Inv (chan s)
      → SendSim (chan s) (Send.publish (send_state n P s) (descriptor (chan s)) b) (Plain.send_publish (chan s))
  unfolding Send.publish_by Plain.send_publish_by Plain.send_publish_number Plain.send_published descriptor need
  sim_pub not_sending g = rw (pub_code not_sending g) (record { same = refl; other = refl; good = g })
  sim_pub (sending k m) g =
      rw (pub_code (sending k m) g)
      (cases (leb (length m) k)
      (λ e.
      let h : length m ≤ k = leb-true (length m) k e in
      rw e (record { same = rw (pub_own k m g h); other = snoc_other q m r g.receive; good = pub_good k m g h }))
      (λ e. rw e (record { same = refl; other = refl; good = g })))

-- ---- over the plain channel as it stands

module _ (p : Plain) (g : Inv p) where
  pub look_sim : (m : List ℕ) → SendSim p (Send.look (sender_of p) m (descriptor p) p.buf) (Plain.send_look p m)
  look_sim m = sim_look p.n p.buf p.queue p.P p.R p.receive p.send m g

  pub move_sim : SendSim p (Send.move (sender_of p) (descriptor p) p.buf) (Plain.send_move p)
  move_sim = sim_move p.n p.buf p.queue p.P p.R p.receive p.send g

  pub pub_sim : SendSim p (Send.publish (sender_of p) (descriptor p) p.buf) (Plain.send_publish p)
  pub_sim = sim_pub p.n p.buf p.queue p.P p.R p.receive p.send g

-- ---- a whole send

pub moves_sim : (k : ℕ) (x : PlainOutcome) → Inv x.next → SendSim x.next (moves Send.move k (as_sender x)) (Plain.send_moves k x)
unfolding moves Plain.send_moves
moves_sim zero x g = record { same = refl; other = refl; good = g }
moves_sim (suc k) x g =
    let h : SendSim x.next _ (Plain.send_move x.next) = move_sim x.next g in
    let y : PlainOutcome = Plain.send_move x.next in
    let i : SendSim y.next _ (Plain.send_moves k y) = moves_sim k y h.good in
    record { same = ap (moves Send.move k) h.same ∙ i.same; other = i.other ∙ h.other; good = i.good }

whole_from :
    (p : Plain) (l : ℕ) (a : Outcome) (x : PlainOutcome) → SendSim p a x
    → SendSim p (Send.after_look l a) (Plain.send_after_look l x)
unfolding Send.after_look Plain.send_after_look
whole_from p l a x f =
    let w : SendSim x.next (moves Send.move l (as_sender x)) (Plain.send_moves l x) = moves_sim l x f.good in
    let y : Plain = (Plain.send_moves l x).next in
    let v : SendSim y (Send.publish (sender_of y) (descriptor y) y.buf) (Plain.send_publish y) = pub_sim y w.good in
    rw f.same
    (cases (eqb x.code 0)
    (λ e. rw e (record { same = ap Send.publish_after w.same ∙ v.same; other = v.other ∙ w.other ∙ f.other; good = v.good }))
    (λ e. rw e (record { same = refl; other = f.other; good = f.good })))

pub whole_sim :
    (p : Plain) → Inv p → (m : List ℕ)
    → SendSim p (Send.whole (sender_of p) m (descriptor p) p.buf) (Plain.send_whole p m)
whole_sim p g m = whole_from p (length m) _ _ (look_sim p g m)
