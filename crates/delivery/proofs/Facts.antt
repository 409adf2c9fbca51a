-- What each operation does to the plain channel's messages, to the dwords that are published and not released, and to
-- the channel on which the ended calls are run whole.
use mathlib.Core.Path.{◌≡◌, refl, sym, ap, ◌∙◌}
use mathlib.Core.Logic.{◌≢◌}
use mathlib.Core.Bool.{true, false}
use mathlib.Core.List.{List, [], ◌∷◌, ◌++◌, append-nil}
use Prim.Native.Nat.{ℕ, ◌+◌, ◌-◌, ◌%◌, ◌≤◌, ◌<◌}
use native.Mathlib.Omega.{arith}
use native.Mathlib.Numerals.{add-one}
use borrow.Author.Tests.{leb-true, le-leb, eqb-false}
use lib.ListN.{length, get_or, take, drop, set}
use lib.Seq.{take_all, take-append_seam, get_or-set_other}
use lib.Dec.{leb, eqb}
use Rattle.message.specs.Header.{is_message}
use Rattle.message.proofs.Formed.{message_long}
use Rattle.ring.specs.Numbers.{need}
use Rattle.runs.specs.Buffer.{stored}
use Rattle.ring.proofs.Chains.{ok}
use Rattle.message.proofs.Tests.{cases}
use Rattle.runs.proofs.Ring.{apart, stored_other, stored-take}
use Rattle.channel.specs.Operations.{Op, receive_look, receive_move, receive_publish, receive_whole}
use Rattle.channel.specs.Operations.{send_look, send_move, send_publish, send_whole}
use Rattle.delivery.specs.Operations.{plain_outcome}
use Rattle.delivery.specs.Plain.{Plain, Receiving, Sending, first, not_receiving, not_sending, receiving, sending}
use Rattle.delivery.specs.Plain
use Rattle.delivery.proofs.Invariant.{Inv, bad, empty-receiving, n-low, plain}
use Rattle.delivery.proofs.RanWhole.{StepFacts, no_facts, one-run, same_run}
use Rattle.delivery.proofs.Wholes.{done, handed, refusal, room_number}
use Rattle.delivery.proofs.Wholes.{receive-whole_midcall, receive-whole-none, receive-whole_ok, receive-whole-short}
use Rattle.delivery.proofs.Wholes.{send-whole_midcall, send-whole_ok, send-whole-refused}

-- what is known of an operation of the plain channel
abbrev FactsOf : Plain → Op → Type 0
FactsOf p o = StepFacts p o (plain_outcome p o)

module _ (n : ℕ) (b : List ℕ) (q : List (List ℕ)) (P R : ℕ) where
  -- the plain channel, by its sides
  abbrev sides : Sending → Receiving → Plain
  sides s r = plain n b q P R s r

  -- ---- a send's look

  module _ (m : List ℕ) (r : Receiving) where
    look_yes : StepFacts (sides not_sending r) (send_look m) (done (sides (sending 0 m) r))
    look_yes =
        record {
          flow = λ c h. append-nil q;
          holds = λ c h. refl;
          keeps = λ j h. refl;
          ran = λ c h e i z l. same_run _ z _ refl l;
        }

    look_no :
        (c : ℕ) → room_number n P R m ≡ c → eqb c 0 ≡ false → eqb c 3 ≡ false
        → StepFacts (sides not_sending r) (send_look m) (refusal c [] (sides not_sending r))
    look_no c f f₀ f₃ =
        record {
          flow = λ c' h. append-nil q;
          holds = λ c' h. tt;
          keeps = λ j h. refl;
          ran =
              λ c' h e i z l. rw (f₀, f₃)
              (one-run _ z z _ _ (send_whole m) _ (send-whole-refused n z q P R not_receiving m c f f₀) refl refl l);
        }

  -- ---- a send's move, publish and whole call

  module _ (k : ℕ) (m : List ℕ) (r : Receiving) (g : Inv (sides (sending k m) r)) where
    move_yes :
        k < length m
        → StepFacts (sides (sending k m) r) send_move (done (plain n (set b ((P + k) % n) (get_or m k 0)) q P R (sending (k + 1) m) r))
    move_yes h =
        record {
          flow = λ c h. append-nil q;
          holds = λ c h. h;
          keeps =
              λ j w. get_or-set_other b ((P + k) % n) j (get_or m k 0) 0
              (λ e. apart n w.i (P + k) (omega arith) (omega (arith, g.count, g.send.fits)) (sym w.at ∙ e));
          ran = λ c _ e i z l.
              let t = stored-take z n P m k h ∙ ap (λ (x : ℕ). stored z n P (take x m)) (sym (add-one k)) in
              same_run _ z _ refl (ap (λ (y : List ℕ). set y ((P + k) % n) (get_or m k 0)) l ∙ t);
        }

    pub_yes :
        length m ≤ k
        → StepFacts (sides (sending k m) r) send_publish
        (done (plain n b (q ++ (m ∷ [])) (P + length m) R not_sending r))
    unfolding stored room_number
    pub_yes h =
        let f : leb (length m) (n - 1 - (P - R)) ≡ true = le-leb (length m) (n - 1 - (P - R)) (omega (arith, g.count, g.send.fits)) in
        record {
          flow = λ c i. ap (λ (y : List ℕ). q ++ (y ∷ [])) i;
          holds = λ c i. tt;
          keeps = λ j w. refl;
          ran =
              λ c i e _ z l.
              let w =
              ap (Plain.send_whole (plain n z q P R not_sending not_receiving)) i
              ∙ send-whole_ok n z q P R not_receiving m (ok 4 g.send.is_message_fact ∙ ok 10 f) in
              one-run _ z (stored z n P m) _ _ (send_whole c) _ w refl refl (l ∙ ap (stored z n P) (take_all k m h));
        }

  module _ (m : List ℕ) (r : Receiving) (g : Inv (sides not_sending r)) where
    whole_yes :
        room_number n P R m ≡ 0 → length m ≤ n - 1 - (P - R)
        → StepFacts (sides not_sending r) (send_whole m) (done (plain n (stored b n P m) (q ++ (m ∷ [])) (P + length m) R not_sending r))
    unfolding stored
    whole_yes f h =
        let z₀ : 1024 ≤ n = n-low (sides not_sending r) g in
        record {
          flow = λ c i. refl;
          holds = λ c i. tt;
          keeps =
              λ j w. stored_other b n P m j
              (λ t lo hi e. apart n w.i t (omega arith) (omega (arith, g.count, g.room)) (sym w.at ∙ e));
          ran =
              λ c i e _ z l. one-run _ z (stored z n P m) _ _ (send_whole m) _
              (send-whole_ok n z q P R not_receiving m f) refl refl (ap (λ (y : List ℕ). stored y n P m) l);
        }

    whole_no :
        (c : ℕ) → room_number n P R m ≡ c → eqb c 0 ≡ false → eqb c 3 ≡ false
        → StepFacts (sides not_sending r) (send_whole m) (refusal c [] (sides not_sending r))
    whole_no c f f₀ f₃ =
        record {
          flow = λ c' h. rw f₀ (append-nil q);
          holds = λ c' h. tt;
          keeps = λ j h. refl;
          ran =
              λ c' h e i z l. rw f₃
              (one-run _ z z _ _ (send_whole m) _ (send-whole-refused n z q P R not_receiving m c f f₀) refl refl l);
        }

-- ---- a receive's look, move, publish and whole call

module _ (n : ℕ) (b : List ℕ) (P R : ℕ) (s : Sending) where
  -- by its queue and receiver
  abbrev holding : List (List ℕ) → Receiving → Plain
  holding q r = plain n b q P R s r

  r_look-none : StepFacts (holding [] not_receiving) receive_look (refusal 11 [] (holding [] not_receiving))
  r_look-none =
      record {
        flow = λ c h. refl;
        holds = λ c h. h;
        keeps = λ j h. refl;
        ran =
            λ c h e i z l. one-run _ z z _ _ (receive_whole e) _
            (receive-whole-none n z P R not_sending e (le-leb 256 (length e) (omega arith))) refl refl l;
      }

  r_look_yes : (q : List (List ℕ)) (k : ℕ) → StepFacts (holding q not_receiving) receive_look (done (holding q (receiving k)))
  r_look_yes q k =
      record {
        flow = λ c h. append-nil q;
        holds = λ c h. h;
        keeps = λ j h. refl;
        ran = λ c h e i z l. same_run _ z _ refl l;
      }

  r_move_yes : (q : List (List ℕ)) (k : ℕ) → StepFacts (holding q (receiving k)) receive_move (done (holding q (receiving (k + 1))))
  r_move_yes q k =
      record {
        flow = λ c h. append-nil q;
        holds = λ c h. h;
        keeps = λ j h. refl;
        ran = λ c h e i z l. same_run _ z _ refl l;
      }

  module _ (o : List ℕ) (l₀ : leb 256 (length o) ≡ true) (m : List ℕ) (q : List (List ℕ)) (h₀ : 1 ≤ length m) where
    r_pub_yes :
        (r : Receiving)
        → StepFacts (holding (m ∷ q) r) (receive_publish o) (handed m o (plain n b q P (R + length m) s not_receiving))
    r_pub_yes r =
        record {
          flow = λ c h. append-nil (m ∷ q) ∙ ap (λ (y : List ℕ). y ∷ q) (sym (take-append_seam m (drop (length m) o)));
          holds = λ c h. h;
          keeps = λ j h. refl;
          ran = λ c h e i z l. one-run _ z z _ _ (receive_whole o) _ (receive-whole_ok n z P R not_sending o l₀ m q h₀) refl refl l;
        }

    r_whole_yes : StepFacts (holding (m ∷ q) not_receiving) (receive_whole o) (handed m o (plain n b q P (R + length m) s not_receiving))
    r_whole_yes =
        record {
          flow = λ c h. append-nil (m ∷ q) ∙ ap (λ (y : List ℕ). y ∷ q) (sym (take-append_seam m (drop (length m) o)));
          holds = λ c h. h;
          keeps = λ j h. refl;
          ran = λ c h e i z l. one-run _ z z _ _ (receive_whole o) _ (receive-whole_ok n z P R not_sending o l₀ m q h₀) refl refl l;
        }

  r_whole-none :
      (o : List ℕ) → leb 256 (length o) ≡ true
      → StepFacts (holding [] not_receiving) (receive_whole o) (refusal 11 o (holding [] not_receiving))
  r_whole-none o l₀ =
      record {
        flow = λ c h. refl;
        holds = λ c h. h;
        keeps = λ j h. refl;
        ran = λ c h e i z l. one-run _ z z _ _ (receive_whole o) _ (receive-whole-none n z P R not_sending o l₀) refl refl l;
      }

  r_whole-short :
      (q : List (List ℕ)) (o : List ℕ) → leb 256 (length o) ≡ false
      → StepFacts (holding q not_receiving) (receive_whole o) (refusal 5 o (holding q not_receiving))
  r_whole-short q o l₀ =
      record {
        flow = λ c h. append-nil q;
        holds = λ c h. h;
        keeps = λ j h. refl;
        ran = λ c h e i z l. one-run _ z z _ _ (receive_whole o) _ (receive-whole-short n z q P R not_sending o l₀) refl refl l;
      }

-- ---- every operation

module _ (n : ℕ) (b : List ℕ) (P R : ℕ) where
  -- by its queue and sides
  abbrev chan : List (List ℕ) → Sending → Receiving → Plain
  chan q s r = plain n b q P R s r

  facts_look : (q : List (List ℕ)) (r : Receiving) (m : List ℕ) (s : Sending) → Inv (chan q s r) → FactsOf (chan q s r) (send_look m)
  unfolding Plain.send_look_by Plain.send_look_number need room_number
  facts_look q r m not_sending g =
      cases (is_message m)
      (λ f. cases (leb (length m) (n - 1 - (P - R)))
      (λ l. rw (f, l) (look_yes n b q P R m r))
      (λ l. rw (f, l) (look_no n b q P R m r 10 (ok 4 f ∙ bad 0 l) refl refl)))
      (λ f. rw f (look_no n b q P R m r 4 (bad _ f) refl refl))
  facts_look q r m (sending k m₀) g = no_facts _ _ 3 [] (λ k. refl) refl (λ k. refl) (λ e k. refl)

  facts_move : (q : List (List ℕ)) (r : Receiving) (s : Sending) → Inv (chan q s r) → FactsOf (chan q s r) send_move
  unfolding Plain.send_move_by Plain.send_move_number need Plain.send_moved
  facts_move q r not_sending g = no_facts _ _ 3 [] (λ k. refl) refl (λ k. refl) (λ e k. refl)
  facts_move q r (sending k m) g =
      cases (eqb k (length m))
      (λ e. rw e (no_facts _ _ 12 [] (λ k. refl) refl (λ k. refl) (λ e k. refl)))
      (λ e.
      let d : k ≢ length m = eqb-false k (length m) e in
      rw e (move_yes n b q P R k m r g (omega (arith, g.send.up_to))))

  facts_pub : (q : List (List ℕ)) (r : Receiving) (s : Sending) → Inv (chan q s r) → FactsOf (chan q s r) send_publish
  unfolding Plain.send_publish_by Plain.send_publish_number need Plain.send_published
  facts_pub q r not_sending g = no_facts _ _ 3 [] (λ k. refl) refl (λ k. refl) (λ e k. refl)
  facts_pub q r (sending k m) g =
      cases (leb (length m) k)
      (λ e. rw e (pub_yes n b q P R k m r g (leb-true (length m) k e)))
      (λ e. rw e (no_facts _ _ 12 [] (λ k. refl) refl (λ k. refl) (λ e k. refl)))

  facts_whole :
      (q : List (List ℕ)) (r : Receiving) (m : List ℕ) (s : Sending) → Inv (chan q s r)
      → FactsOf (chan q s r) (send_whole m)
  unfolding room_number
  facts_whole q r m not_sending g =
      cases (is_message m)
      (λ f. cases (leb (length m) (n - 1 - (P - R)))
      (λ l. rw (send-whole_ok n b q P R r m (ok 4 f ∙ ok 10 l))
      (whole_yes n b q P R m r g (ok 4 f ∙ ok 10 l) (leb-true (length m) (n - 1 - (P - R)) l)))
      (λ l. rw (send-whole-refused n b q P R r m 10 (ok 4 f ∙ bad 0 l) refl)
      (whole_no n b q P R m r g 10 (ok 4 f ∙ bad 0 l) refl refl)))
      (λ f. rw (send-whole-refused n b q P R r m 4 (bad _ f) refl) (whole_no n b q P R m r g 4 (bad _ f) refl refl))
  facts_whole q r m (sending k m₀) g =
      rw (send-whole_midcall n b q P R r m k m₀) (no_facts _ _ 3 [] (λ k. refl) refl (λ k. refl) (λ e k. refl))

  module _ (s : Sending) where
    facts_r_look : (q : List (List ℕ)) (r : Receiving) → Inv (chan q s r) → FactsOf (chan q s r) receive_look
    unfolding Plain.receive_look_by Plain.receive_look_number need
    facts_r_look [] not_receiving g = r_look-none n b P R s
    facts_r_look (m ∷ q) not_receiving g = r_look_yes n b P R s (m ∷ q) 1
    facts_r_look q (receiving k) g = no_facts _ _ 3 [] (λ k. refl) refl (λ k. refl) (λ e k. refl)

    facts_r_move : (q : List (List ℕ)) (r : Receiving) → Inv (chan q s r) → FactsOf (chan q s r) receive_move
    unfolding Plain.receive_move_by Plain.receive_move_number need
    facts_r_move q not_receiving g = no_facts _ _ 3 [] (λ k. refl) refl (λ k. refl) (λ e k. refl)
    facts_r_move q (receiving k) g =
        cases (eqb k (length (first q)))
        (λ e. rw e (no_facts _ _ 12 [] (λ k. refl) refl (λ k. refl) (λ e k. refl)))
        (λ e. rw e (r_move_yes n b P R s q k))

    facts_r_pub : (o : List ℕ) (q : List (List ℕ)) (r : Receiving) → Inv (chan q s r) → FactsOf (chan q s r) (receive_publish o)
    unfolding Plain.receive_publish_by Plain.receive_publish_number need
    facts_r_pub o q not_receiving g = no_facts _ _ 3 o (λ k. refl) refl (λ k. refl) (λ e k. refl)
    facts_r_pub o [] (receiving k) g = empty-receiving k g.receive
    facts_r_pub o (m ∷ q) (receiving k) g =
        cases (leb 256 (length o))
        (λ e. cases (leb (length m) k)
        (λ f. rw (e, f) (r_pub_yes n b P R s o e m q (omega (arith, message_long m g.all-messages.0)) (receiving k)))
        (λ f. rw (e, f) (no_facts _ _ 12 o (λ k. refl) refl (λ k. refl) (λ e k. refl))))
        (λ e. rw e (no_facts _ _ 5 o (λ k. refl) refl (λ k. refl) (λ e k. refl)))

    facts_r_whole : (o : List ℕ) (q : List (List ℕ)) (r : Receiving) → Inv (chan q s r) → FactsOf (chan q s r) (receive_whole o)
    facts_r_whole o [] not_receiving g =
        cases (leb 256 (length o))
        (λ e. rw (receive-whole-none n b P R s o e) (r_whole-none n b P R s o e))
        (λ e. rw (receive-whole-short n b [] P R s o e) (r_whole-short n b P R s [] o e))
    facts_r_whole o (m ∷ q) not_receiving g =
        let h : 1 ≤ length m = omega (arith, message_long m g.all-messages.0) in
        cases (leb 256 (length o))
        (λ e. rw (receive-whole_ok n b P R s o e m q h) (r_whole_yes n b P R s o e m q h))
        (λ e. rw (receive-whole-short n b (m ∷ q) P R s o e) (r_whole-short n b P R s (m ∷ q) o e))
    facts_r_whole o q (receiving k) g =
        rw (receive-whole_midcall n b q P R s o k) (no_facts _ _ 3 o (λ k. refl) refl (λ k. refl) (λ e k. refl))

pub facts : (p : Plain) → Inv p → (o : Op) → FactsOf p o
facts p g (send_look m) = facts_look p.n p.buf p.P p.R p.queue p.receive m p.send g
facts p g send_move = facts_move p.n p.buf p.P p.R p.queue p.receive p.send g
facts p g send_publish = facts_pub p.n p.buf p.P p.R p.queue p.receive p.send g
facts p g (send_whole m) = facts_whole p.n p.buf p.P p.R p.queue p.receive m p.send g
facts p g receive_look = facts_r_look p.n p.buf p.P p.R p.send p.queue p.receive g
facts p g receive_move = facts_r_move p.n p.buf p.P p.R p.send p.queue p.receive g
facts p g (receive_publish o) = facts_r_pub p.n p.buf p.P p.R p.send o p.queue p.receive g
facts p g (receive_whole o) = facts_r_whole p.n p.buf p.P p.R p.send o p.queue p.receive g
