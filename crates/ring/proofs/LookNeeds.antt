-- What a look needs of the descriptor, and offsets of the ring without a remainder. Assumes nothing.
use Prim.Native.Nat.{ℕ, ◌+◌, ◌-◌, ◌≤◌, ◌<◌}
use mathlib.Core.Path.{◌≡◌, refl, sym, ◌∙◌}
use mathlib.Core.Bool.{false, not, ◌&&◌}
use native.Mathlib.Omega.{arith}
use native.Mathlib.Nat.{mod-lt, mod-eq_of_lt, add-mod_right}
use lib.Dec.{eqb, leb, ltb}
use borrow.Author.Tests.{eqb-true, ltb-true, lt-ltb, le-leb, lt-leb, eq-eqb, not-true}
use Rattle.message.specs.Header.{total_length}
use Rattle.refusal.specs.declared.Refusal.{Refusal}
use Rattle.refusal.specs.Numbers.{number}
use Rattle.refusal.proofs.Refused.{refuses}
use Rattle.message.proofs.Tests.{and_l, and_r, cases}
use Rattle.ring.specs.Ring.{used}
use Rattle.ring.specs.Numbers.{need, look_needs, receive_look_needs}
use Rattle.ring.specs.Private.{pending_number}
use Rattle.ring.proofs.Chains.{passed, passed_rest}

module _ (n hd tl : ℕ) where
  -- the dwords in use where TAIL is not below HEAD
  pub used_up : hd ≤ tl → tl < n → used n hd tl ≡ tl - hd
  unfolding used
  used_up h l =
      let e : tl + n - hd ≡ tl - hd + n = omega arith in
      rw (e, add-mod_right) (mod-eq_of_lt (omega arith))

  -- the dwords in use where TAIL is below HEAD
  pub used_round : tl < hd → hd < n → used n hd tl ≡ n - (hd - tl)
  unfolding used
  used_round h l =
      let e : tl + n - hd ≡ n - (hd - tl) = omega arith in
      rw e (mod-eq_of_lt (omega arith))

  -- fewer than N are in use
  pub used_lt : hd < n → used n hd tl < n
  unfolding used
  used_lt l = mod-lt (tl + n - hd) (omega arith)

-- what a look has that is refused by none of 6, 7 and 8
pub record LookNeedsMet (n own word status hd tl : ℕ) : Type 0 where
  pub good : status ≡ 0
  pub head : hd < n
  pub tail : tl < n
  pub same : own ≡ word

module _ (n own word status hd tl rest : ℕ) (e : look_needs n own word status hd tl rest ≡ 0) where
  e₁ : need (ltb hd n && ltb tl n) 7 (need (eqb own word) 8 rest) ≡ 0
  unfolding look_needs
  e₁ = passed_rest (eqb status 0) 6 _ 0 refl e

  e₂ : need (eqb own word) 8 rest ≡ 0
  e₂ = passed_rest (ltb hd n && ltb tl n) 7 _ 0 refl e₁

  pub look-needs_met : LookNeedsMet n own word status hd tl
  unfolding look_needs
  look-needs_met =
      let t = passed (ltb hd n && ltb tl n) 7 _ 0 refl e₁ in
      record {
        good = eqb-true status 0 (passed (eqb status 0) 6 _ 0 refl e);
        head = ltb-true hd n (and_l (ltb hd n) (ltb tl n) t);
        tail = ltb-true tl n (and_r (ltb hd n) (ltb tl n) t);
        same = eqb-true own word (passed (eqb own word) 8 rest 0 refl e₂);
      }

  pub look-needs-rest : rest ≡ 0
  look-needs-rest = passed_rest (eqb own word) 8 rest 0 refl e₂

module _ (n own word status hd tl : ℕ) where
  -- then the rest of the chain is the answer
  pub look-needs-none : LookNeedsMet n own word status hd tl → (rest : ℕ) → look_needs n own word status hd tl rest ≡ rest
  unfolding need look_needs
  look-needs-none f rest = simp (f.good, lt-ltb hd n f.head, lt-ltb tl n f.tail, eq-eqb own word f.same)

  -- and where one of them refuses, it is, whatever the rest
  pub look-needs-one :
      (rest : ℕ) (r : Refusal) → number r ≡ look_needs n own word status hd tl 0 → number r ≡ look_needs n own word status hd tl rest
  unfolding need look_needs
  look-needs-one rest r e =
      cases (eqb status 0)
      (λ a. cases (ltb hd n && ltb tl n)
      (λ b. cases (eqb own word) (λ x. absurd (refuses r (rw (a, b, x) at e))) (λ x. rw (a, b, x) (rw (a, b, x) at e)))
      (λ b. rw (a, b) (rw (a, b) at e)))
      (λ a. rw a (rw a at e))

-- a receive's look reads the header where the descriptor's number is 0: else that number is its answer, whatever the
-- header
module _ (n own st hd tl h : ℕ) where
  pub by_descriptor : (c : ℕ) → pending_number n own st hd tl ≡ c → (c ≡ 0 → ⊥) → receive_look_needs n own st hd tl h ≡ c
  unfolding receive_look_needs pending_number need look_needs
  by_descriptor c e z =
      cases (eqb st 0)
      (λ a. cases (ltb hd n && ltb tl n)
      (λ b. cases (eqb own hd)
      (λ x. cases (eqb (used n hd tl) 0) (λ u. rw (a, b, x, u) (rw (a, b, x, u) at e)) (λ u. absurd (z (sym (rw (a, b, x, u) at e)))))
      (λ x. rw (a, b, x) (rw (a, b, x) at e)))
      (λ b. rw (a, b) (rw (a, b) at e)))
      (λ a. rw a (rw a at e))

  -- .. as the code has it, by the reason
  pub refused_by_descriptor : (r : Refusal) → number r ≡ pending_number n own st hd tl → number r ≡ receive_look_needs n own st hd tl h
  refused_by_descriptor r e = sym (by_descriptor (number r) (sym e) (refuses r))

  module _ (e : pending_number n own st hd tl ≡ 0) where
    rest : ℕ
    rest = need (not (eqb (used n hd tl) 0)) 11 0

    e₀ : look_needs n own hd st hd tl rest ≡ 0
    unfolding pending_number rest
    e₀ = e

    none : LookNeedsMet n own hd st hd tl
    none = look-needs_met n own hd st hd tl rest e₀

    in_use : eqb (used n hd tl) 0 ≡ false
    unfolding rest
    in_use = not-true (eqb (used n hd tl) 0) (passed (not (eqb (used n hd tl) 0)) 11 0 0 refl (look-needs-rest n own hd st hd tl rest e₀))

    pub by_header : receive_look_needs n own st hd tl h ≡ need (leb (total_length h) (used n hd tl)) 9 0
    unfolding receive_look_needs need
    by_header = rw (look-needs-none n own hd st hd tl none, in_use)

    pub torn : used n hd tl < total_length h → receive_look_needs n own st hd tl h ≡ 9
    unfolding need
    torn l = by_header ∙ rw (lt-leb (total_length h) (used n hd tl) l)

    pub whole : total_length h ≤ used n hd tl → receive_look_needs n own st hd tl h ≡ 0
    unfolding need
    whole l = by_header ∙ rw (le-leb (total_length h) (used n hd tl) l)
