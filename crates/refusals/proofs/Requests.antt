-- An opening of a wall: its number is that of the first row that is given, the ring's own last, and a refused one leaves the
-- wall and, but for STATUS, the channel. Any leaves reserved words. Assumes nothing.
use Prim.Native.Nat.{ℕ, suc, ◌+◌, ◌-◌}
use mathlib.Core.Path.{◌≡◌, refl, sym, ap, ◌∙◌}
use mathlib.Core.Bool.{true, false, not, ◌&&◌}
use mathlib.Core.List.{List, [], ◌∷◌, map}
use native.Mathlib.Omega.{arith}
use lib.ListN.{length, get_or}
use lib.Dec.{eqb, leb, leb-suc-suc, leb-zero, ltb}
use borrow.Author.Tests.{ne_eqb}
use Rattle.message.proofs.Tests.{cases}
use Rattle.message.specs.Fields.{type, field_of}
use Rattle.message.specs.Header.{is_message, is_request}
use Rattle.firmware.specs.Bytes.{then}
use Rattle.channel.specs.State.{State}
use Rattle.channel.specs.Outcome as channel
use Rattle.channel.specs.Send
use Rattle.channel.specs.Operations.{send_whole}
use Rattle.requests.specs.Calls.{Wall, open_by, open_number, wall_needs}
use Rattle.requests.specs.Opening.{send_for, sending, sent_for}
use Rattle.requests.specs.Table.{is_open, lowest_free, set_aside}
use Rattle.requests.specs.declared.record.Record.{Record}
use Rattle.refusals.specs.Order.{AllPass}
use Rattle.refusals.specs.WallRows.{all_open, open_ones, request_tests, send_request_tests, sum}
use Rattle.refusals.specs.WallRows.{row_14_room, row_26, row_27_request, row_28}
use Rattle.refusals.specs.Table.{operation_rows}
use Rattle.refusals.specs.Left.{RequestRefused, ReservedStay, but_reserved, descriptor_left, offset_past}
use Rattle.refusals.specs.Left.{reserved_words, state_left, unreserved_words}
use Rattle.refusals.proofs.Laws.{looking_send, not_one, one-need, one_of}
use Rattle.refusals.proofs.Lowest.{accepts, all_rise, first_judged, first_of, rising}
use Rattle.refusals.proofs.Rows.{below, either_fails, send_looks_fact}
use Rattle.refusals.proofs.Files.{alone, judged-behind}
use Rattle.refusals.proofs.Sends.{one-look, send-whole}
use Rattle.refusals.proofs.Walls.{behind_35_2, code_same, leaves_all, none-judged, one-judged}

-- ---- the same test from both sides

-- 26: a free record is found exactly where not all are open
full : (t : List Record) → all_open t ≡ not (ltb (lowest_free t) (length t))
unfolding all_open lowest_free
full [] = refl
full (r ∷ t) =
    cases (is_open r)
    (λ e. rw (e, leb-suc-suc (suc (lowest_free t)) (length t)) (full t))
    (λ e. rw (e, leb-suc-suc 0 (length t), leb-zero (length t)))

-- 28: what all open records have set aside
aside : (t : List Record) → sum (map (λ (r : Record). r.room) (open_ones t)) ≡ set_aside t
unfolding open_ones set_aside
aside [] = refl
aside (r ∷ t) = cases (is_open r) (λ e. rw e (ap (λ (n : ℕ). r.room + n) (aside t))) (λ e. rw e (omega (arith, aside t)))

over :
    (t : List Record) (n room : ℕ)
    → ltb (n - 1) (sum (map (λ (r : Record). r.room) (open_ones t)) + room) ≡ not (leb (set_aside t + room) (n - 1))
over t n room = rw (aside t) (below (n - 1) (set_aside t + room))

-- ---- a refused whole send, of which 13 is no number

ring-state : (s : State) (m d b : List ℕ) → ((Send.whole s m d b).code ≡ 0 → ⊥) → (Send.whole s m d b).next ≡ s
unfolding state_left one_of
ring-state s m d b z =
    let c : ℕ = (Send.whole s m d b).code in
    let p : one_of looking_send c ≡ true = ap (one_of looking_send) ((send-whole s m b).codes d) ∙ one-look _ _ m d _ in
    ((send-whole s m b).refused d z).state ∙ rw (not_one looking_send c 13 p refl)

-- ---- what a wall refuses by itself

abbrev of_wall : List ℕ
of_wall = 0 ∷ 35 ∷ 2 ∷ 14 ∷ 27 ∷ 26 ∷ 28 ∷ []

module _ (w : Wall) (room : ℕ) (m : List ℕ) where
  own-number : open_number w room m ≡ first_judged (request_tests w room m)
  unfolding open_number is_request
  own-number =
      let t : List Record = w.table in
      behind_35_2 w _ _
      (one-judged (leb room 256) (row_14_room room) _ _ (below 256 room) refl
      (one-judged (is_message m && eqb (field_of type (get_or m 1 0)) 0) (row_27_request m) _ _
      (either_fails (is_message m) (eqb (field_of type (get_or m 1 0)) 0)) refl
      (one-judged (ltb (lowest_free t) (length t)) (row_26 t) _ _ (full t) refl
      (one-judged (leb (set_aside t + room) (w.n - 1)) (row_28 t w.n room) 0 [] (over t w.n room) refl none-judged))))

  own-one : one_of of_wall (open_number w room m) ≡ true
  unfolding one_of open_number wall_needs
  own-one =
      let next = one-need of_wall in
      next _ 35 _ refl (next _ 2 _ refl (next _ 14 _ refl (next _ 27 _ refl (next _ 26 _ refl (next _ 28 0 refl refl)))))

  own_rise : all_rise (request_tests w room m) ≡ true
  unfolding all_rise rising
  own_rise = refl

  -- ---- and the ring's own

  module _ (s : State) (d b : List ℕ) where
    abbrev ring-number : ℕ
    ring-number = (Send.whole s (sent_for w m) d b).code

    send-code : (send_for w room m s d b).code ≡ then (open_number w room m) ring-number
    unfolding send_for
    send-code = cases (eqb (open_number w room m) 0) (λ e. rw e) (λ e. rw e)

    ring_same : ring-number ≡ first_of (operation_rows (send_whole (sent_for w m)) s d b)
    ring_same = (send-whole s (sent_for w m) b).codes d ∙ send_looks_fact s (sent_for w m) d b

    answers : (sending w room m s d b).answer.code ≡ (send_for w room m s d b).code
    unfolding sending open_by
    answers = code_same (send_for w room m s d b).code _ w refl

    pub send-number : (sending w room m s d b).answer.code ≡ first_judged (send_request_tests w room m s d b)
    send-number =
        let rows = operation_rows (send_whole (sent_for w m)) s d b in
        answers ∙ send-code ∙ rw (own-number, ring_same, alone rows) (judged-behind (request_tests w room m) (rows ∷ []))

    -- ---- what a refusal leaves of the channel

    abbrev sent : channel.Outcome
    sent = send_for w room m s d b

    past-wall : eqb (open_number w room m) 0 ≡ true → sent ≡ Send.whole s (sent_for w m) d b
    unfolding send_for
    past-wall e = rw e

    by_wall : eqb (open_number w room m) 0 ≡ false → sent ≡ channel.refused (open_number w room m) s d b []
    unfolding send_for
    by_wall e = rw e

    -- a number of the wall's marks no STATUS
    unmarked : (past : ℕ) → d ≡ descriptor_left (open_number w room m) past d
    unfolding descriptor_left one_of
    unmarked past =
        let is-not : (k : ℕ) → one_of of_wall k ≡ false → eqb (open_number w room m) k ≡ false
        = λ k e. not_one of_wall (open_number w room m) k own-one e in
        rw (is-not 7 refl, is-not 8 refl, is-not 9 refl, is-not 13 refl)

    untouched : (AllPass (request_tests w room m) → ⊥) → (sent.next ≡ s) × (sent.desc ≡ d) × (sent.buf ≡ b)
    untouched n =
        let e : eqb (open_number w room m) 0 ≡ false
        = ne_eqb (open_number w room m) 0 (λ q. n ((accepts (request_tests w room m) _ own_rise own-number).0 q)) in
        let x = by_wall e in
        (ap (λ (x : channel.Outcome). x.next) x, ap (λ (x : channel.Outcome). x.desc) x, ap (λ (x : channel.Outcome). x.buf) x)

    module _ (z : sent.code ≡ 0 → ⊥) where
      ring-refuses : eqb (open_number w room m) 0 ≡ true → (Send.whole s (sent_for w m) d b).code ≡ 0 → ⊥
      ring-refuses e q = z (ap (λ (x : channel.Outcome). x.code) (past-wall e) ∙ q)

      state-stays : sent.next ≡ s
      state-stays =
          cases (eqb (open_number w room m) 0)
          (λ e. ap (λ (x : channel.Outcome). x.next) (past-wall e) ∙ ring-state s (sent_for w m) d b (ring-refuses e))
          (λ e. ap (λ (x : channel.Outcome). x.next) (by_wall e))

      buffer-stays : sent.buf ≡ b
      buffer-stays =
          cases (eqb (open_number w room m) 0)
          (λ e. ap (λ (x : channel.Outcome). x.buf) (past-wall e) ∙ ((send-whole s (sent_for w m) b).refused d (ring-refuses e)).buffer)
          (λ e. ap (λ (x : channel.Outcome). x.buf) (by_wall e))

      descriptor-left : sent.desc ≡ descriptor_left sent.code (offset_past (send_whole (sent_for w m)) s b) d
      descriptor-left =
          cases (eqb (open_number w room m) 0)
          (λ e. rw (past-wall e) ((send-whole s (sent_for w m) b).refused d (ring-refuses e)).descriptor)
          (λ e. rw (by_wall e) (unmarked (offset_past (send_whole (sent_for w m)) s b)))

    pub send-refused :
        ((sending w room m s d b).answer.code ≡ 0 → ⊥) → RequestRefused w room m s d b (sending w room m s d b)
    unfolding sending open_by
    send-refused z =
        let n : sent.code ≡ 0 → ⊥ = λ q. z (answers ∙ q) in
        record {
          wall-stays = leaves_all sent.code _ w refl z;
          state = state-stays n;
          descriptor = rw answers (descriptor-left n);
          buffer = buffer-stays n;
          untouched = untouched;
        }

  -- ---- reserved words, by the whole send or by a refusal that leaves the descriptor

  module _ (s : State) (b : List ℕ) where
    refused_alike :
        (d e : List ℕ) → unreserved_words d ≡ unreserved_words e
        → but_reserved (channel.refused (open_number w room m) s d b []) ≡ but_reserved (channel.refused (open_number w room m) s e b [])
    refused_alike d e f = ap (λ (x : List ℕ). channel.refused (open_number w room m) s x b []) f

    unchanged : (d : List ℕ) → reserved_words (send_for w room m s d b).desc ≡ reserved_words d
    unchanged d =
        cases (eqb (open_number w room m) 0)
        (λ p. ap (λ (x : channel.Outcome). reserved_words x.desc) (past-wall s d b p)
        ∙ (send-whole s (sent_for w m) b).stay.unchanged d)
        (λ p. ap (λ (x : channel.Outcome). reserved_words x.desc) (by_wall s d b p))

    unjudged :
        (d e : List ℕ) → length d ≡ length e → unreserved_words d ≡ unreserved_words e
        → but_reserved (send_for w room m s d b) ≡ but_reserved (send_for w room m s e b)
    unjudged d e l f =
        cases (eqb (open_number w room m) 0)
        (λ p. ap but_reserved (past-wall s d b p) ∙ (send-whole s (sent_for w m) b).stay.unjudged d e l f
        ∙ sym (ap but_reserved (past-wall s e b p)))
        (λ p. ap but_reserved (by_wall s d b p) ∙ refused_alike d e f ∙ sym (ap but_reserved (by_wall s e b p)))

    pub send-reserved : ReservedStay (λ (d : List ℕ). send_for w room m s d b)
    send-reserved = record { unchanged = unchanged; unjudged = unjudged }
