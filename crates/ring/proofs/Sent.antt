-- What an accepted look of a send has. Assumes nothing.
use Prim.Native.Nat.{ℕ, ◌-◌, ◌≤◌, ◌<◌}
use mathlib.Core.Path.{◌≡◌, refl}
use mathlib.Core.Bool.{Bool, true, cond}
use mathlib.Core.List.{List}
use native.Mathlib.Omega.{arith}
use lib.ListN.{length, get_or, set}
use lib.Dec.{eqb, leb}
use borrow.Author.Tests.{leb-true}
use Rattle.message.specs.Header.{starts_message, is_message}
use Rattle.std.proofs.Common.{Result, Ok, Err}
use Rattle.refusal.specs.declared.Refusal.{Refusal}
use Rattle.refusal.specs.Numbers.{number, number_of}
use Rattle.refusal.proofs.NotZero.{number-not-0}
use Rattle.refusal.proofs.Refused.{refuses}
use Rattle.ring.specs.AtOnce.{own_after, sent_end, whole_send, send_by}
use Rattle.ring.specs.Private.{PlacedBy}
use Rattle.ring.specs.Numbers.{look_needs, marked, need, number_at, send_look_needs, send_decision}
use Rattle.ring.specs.Ring.{TAIL, free, head, status, tail, used}
use Rattle.ring.proofs.Chains.{Entered, entered, entered_fits, entered_rest, passed, passed_rest}
use Rattle.ring.proofs.LookNeeds.{look-needs-rest, look-needs_met}

-- what an accepted look of a send has: for a state that fits, an own tail, and a ring of n dwords
pub record Accepted (fits : Bool) (own : ℕ) (m d : List ℕ) (n : ℕ) : Type 0 where
  pub enters : Entered (length d) n
  pub is_fit : fits ≡ true
  pub is_message_fact : is_message m ≡ true
  pub own-tail : own ≡ tail d
  pub below : own < n
  pub room : length m < n

module _ (fits : Bool) (own : ℕ) (m d : List ℕ) (n : ℕ) (e : number_at fits own m d n ≡ 0) where
  -- what is asked of the message, and of the descriptor
  abbrev starts : Bool
  starts = starts_message (length m) (get_or m 0 0) (get_or m 1 0)

  abbrev asked : ℕ
  asked = send_look_needs n own (length m) (status d) (head d) (tail d)

  rest : ℕ
  rest = need starts 4 asked

  e₁ : rest ≡ 0
  unfolding send_decision rest
  e₁ = entered_rest (length d) n fits rest 0 refl refl refl e

  e₂ : asked ≡ 0
  unfolding rest
  e₂ = passed_rest starts 4 asked 0 refl e₁

  fits-free : ℕ
  fits-free = need (leb (length m) (free n (head d) (tail d))) 10 0

  e₃ : look_needs n own (tail d) (status d) (head d) (tail d) fits-free ≡ 0
  unfolding send_look_needs fits-free
  e₃ = e₂

  pub accepted : Accepted fits own m d n
  unfolding send_decision rest free fits-free is_message
  accepted =
      let f = look-needs_met n own (tail d) (status d) (head d) (tail d) fits-free e₃ in
      let z : fits-free ≡ 0 = look-needs-rest n own (tail d) (status d) (head d) (tail d) fits-free e₃ in
      let l = passed (leb (length m) (free n (head d) (tail d))) 10 0 0 refl z in
      let r : length m ≤ n - 1 - used n (head d) (tail d) = leb-true (length m) (free n (head d) (tail d)) l in
      record {
        enters = entered (length d) n fits rest 0 refl refl refl e;
        is_fit = entered_fits (length d) n fits rest 0 refl refl refl e;
        is_message_fact = passed starts 4 asked 0 refl e₁;
        own-tail = f.same;
        below = omega (arith, f.same, f.tail);
        room = omega (arith, f.tail);
      }

-- a whole send but for its end, and with it
module _ (fits : Bool) (own : ℕ) (m d b : List ℕ) where
  pub placed_refused :
      (r : Refusal) → number r ≡ number_at fits own m d (length b)
      → PlacedBy (Err r) (number_at fits own m d (length b)) own m b b
  placed_refused r e =
      let z = number-not-0 r in
      rw (← e) (record { code = refl; own-tail = rw z; small = λ q. absurd (refuses r q); ring = rw z })

  pub whole_placed :
      (r : Result ℕ Refusal) (d' b' : List ℕ) → PlacedBy r (number_at fits own m d (length b)) own m b b'
      → d' ≡ cond (eqb (number_of r) 0) (set d TAIL (own_after 0 r)) (marked (number_of r) d)
      → sent_end own r d' b' ≡ whole_send fits own m d b
  unfolding send_by
  whole_placed (Ok t) d' b' p g = rw (g, ← p.code, p.own-tail, p.ring, ← p.code)
  whole_placed (Err r) d' b' p g = rw (g, ← p.code, p.ring, ← p.code, number-not-0 r)
