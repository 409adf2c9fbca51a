-- A whole call of the plain channel, at once. Assumes nothing.
use mathlib.Core.Path.{◌≡◌, refl, ap, ◌∙◌}
use mathlib.Core.Bool.{true, false}
use mathlib.Core.List.{List, [], ◌∷◌, ◌++◌}
use Prim.Native.Nat.{ℕ, zero, suc, ◌+◌, ◌-◌, ◌≤◌}
use native.Mathlib.Omega.{arith}
use native.Mathlib.Numerals.{add-one}
use borrow.Author.Tests.{le-leb, ne_eqb}
use lib.ListN.{length, take, drop}
use lib.Seq.{take_all}
use lib.Dec.{leb, eqb}
use Rattle.message.specs.Header.{is_message}
use Rattle.ring.specs.Numbers.{need}
use Rattle.runs.specs.Buffer.{stored}
use Rattle.runs.proofs.Ring.{stored-take}
use Rattle.delivery.specs.Plain.{PlainOutcome, Plain, Receiving, Sending, first, not_receiving, not_sending, receiving, sending}
use Rattle.delivery.specs.Plain
use Rattle.delivery.proofs.Invariant.{plain}

-- the answer of a refusal
abbrev pub refusal : ℕ → List ℕ → Plain → PlainOutcome
refusal c o p = record { code = c; len = 0; out = o; next = p }

-- of an operation that is accepted and lays nothing, and of a receive that lays m
abbrev pub done : Plain → PlainOutcome
done p = record { code = 0; len = 0; out = []; next = p }

abbrev pub handed : List ℕ → List ℕ → Plain → PlainOutcome
handed m o p = record { code = 0; len = length m; out = m ++ drop (length m) o; next = p }

-- the number of a send's look, where the sender is not mid-call
unfoldable pub room_number : ℕ → ℕ → ℕ → List ℕ → ℕ
room_number n P R m = need (is_message m) 4 (need (leb (length m) (n - 1 - (P - R))) 10 0)

module _ (n : ℕ) (b : List ℕ) (q : List (List ℕ)) (P R : ℕ) where
  -- the plain channel, by its sides
  abbrev sides : Sending → Receiving → Plain
  sides s r = plain n b q P R s r

  module _ (r : Receiving) (m : List ℕ) where
    -- k dwords moved
    abbrev moved : ℕ → Plain
    moved k = plain n (stored b n P (take k m)) q P R (sending k m) r

    -- and j more
    pub send-moves_eq :
        (j k : ℕ) (x : PlainOutcome) → k + j ≤ length m → x.next ≡ moved k
        → (Plain.send_moves j x).next ≡ moved (k + j)
    unfolding Plain.send_moves Plain.send_move_by Plain.send_move_number Plain.send_moved need
    send-moves_eq zero k x h f =
        let e : k ≡ k + 0 = omega arith in
        f ∙ ap moved e
    send-moves_eq (suc j) k x h f =
        let s = stored-take b n P m k (omega arith) in
        let t : (Plain.send_move x.next).next ≡ moved (suc k) = rw (f, ne_eqb k (length m) (λ w. omega arith), add-one k, s) in
        let e : suc k + j ≡ k + suc j = omega arith in
        send-moves_eq j (suc k) (Plain.send_move x.next) (omega arith) t ∙ ap moved e

    pub send-moves :
        (j : ℕ) (x : PlainOutcome) → j ≤ length m → x.next ≡ sides (sending 0 m) r
        → (Plain.send_moves j x).next ≡ moved j
    unfolding stored
    send-moves j x h f =
        let e : 0 + j ≡ j = omega arith in
        send-moves_eq j 0 x (omega arith) f ∙ ap moved e

    pub send-whole_ok :
        room_number n P R m ≡ 0
        → Plain.send_whole (sides not_sending r) m ≡ done (plain n (stored b n P m) (q ++ (m ∷ [])) (P + length m) R not_sending r)
    unfolding Plain.send_after_look Plain.send_look_by Plain.send_look_number room_number Plain.send_publish_by
        Plain.send_publish_number Plain.send_published need stored
    send-whole_ok e =
        let x = done (sides (sending 0 m) r) in
        let all : List ℕ → Plain = λ l. plain n (stored b n P l) q P R (sending (length m) m) r in
        let t : (Plain.send_moves (length m) x).next ≡ all m =
        send-moves (length m) x (omega arith) refl ∙ ap all (take_all (length m) m (omega arith)) in
        rw e (rw (t, le-leb (length m) (length m) (omega arith)))

    pub send-whole-refused :
        (c : ℕ) → room_number n P R m ≡ c → eqb c 0 ≡ false
        → Plain.send_whole (sides not_sending r) m ≡ refusal c [] (sides not_sending r)
    unfolding Plain.send_after_look Plain.send_look_by Plain.send_look_number room_number
    send-whole-refused c e f = rw (e, f)

    pub send-whole_midcall :
        (k : ℕ) (m₀ : List ℕ) → Plain.send_whole (sides (sending k m₀) r) m ≡ refusal 3 [] (sides (sending k m₀) r)
    unfolding Plain.send_after_look Plain.send_look_by Plain.send_look_number
    send-whole_midcall k m₀ = refl

  module _ (s : Sending) (o : List ℕ) where
    receive-moves :
        (j k : ℕ) (x : PlainOutcome) → k + j ≡ length (first q) → x.next ≡ sides s (receiving k)
        → (Plain.receive_moves j x).next ≡ plain n b q P R s (receiving (length (first q)))
    unfolding Plain.receive_moves Plain.receive_move_by Plain.receive_move_number need
    receive-moves zero k x e f =
        let k' : k ≡ length (first q) = omega arith in
        f ∙ (λ i. sides s (receiving (k' i)))
    receive-moves (suc j) k x e f =
        let t : (Plain.receive_move x.next).next ≡ sides s (receiving (suc k)) =
        rw (f, ne_eqb k (length (first q)) (λ w. omega arith), add-one k) in
        receive-moves j (suc k) (Plain.receive_move x.next) (omega arith) t

    pub receive-whole-short :
        leb 256 (length o) ≡ false → Plain.receive_whole (sides s not_receiving) o ≡ refusal 5 o (sides s not_receiving)
    unfolding Plain.receive_whole_by Plain.receive_whole_number need
    receive-whole-short e = rw e

    pub receive-whole_midcall : (k : ℕ) → Plain.receive_whole (sides s (receiving k)) o ≡ refusal 3 o (sides s (receiving k))
    unfolding Plain.receive_whole_by Plain.receive_whole_number
    receive-whole_midcall k = refl

module _ (n : ℕ) (b : List ℕ) (P R : ℕ) (s : Sending) (o : List ℕ) (l : leb 256 (length o) ≡ true) where
  -- the plain channel, by its queue and receiver
  abbrev holding : List (List ℕ) → Receiving → Plain
  holding q r = plain n b q P R s r

  pub receive-whole-none : Plain.receive_whole (holding [] not_receiving) o ≡ refusal 11 o (holding [] not_receiving)
  unfolding Plain.receive_whole_by Plain.receive_whole_number Plain.receive_look_by Plain.receive_look_number Plain.receive_after_look need
  receive-whole-none = rw l

  pub receive-whole_ok :
      (m : List ℕ) (q : List (List ℕ)) → 1 ≤ length m
      → Plain.receive_whole (holding (m ∷ q) not_receiving) o ≡ handed m o (plain n b q P (R + length m) s not_receiving)
  unfolding Plain.receive_whole_by Plain.receive_whole_number Plain.receive_look_by Plain.receive_look_number
      Plain.receive_after_look Plain.receive_publish_by Plain.receive_publish_number need
  receive-whole_ok m q h =
      let x = done (holding (m ∷ q) (receiving 1)) in
      let t : (Plain.receive_moves (length m - 1) x).next ≡ holding (m ∷ q) (receiving (length m)) =
      receive-moves n b (m ∷ q) P R s o (length m - 1) 1 x (omega arith) refl in
      rw l (rw (t, le-leb (length m) (length m) (omega arith)))
