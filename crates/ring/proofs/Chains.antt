-- What the answer of a chain of tests says: the tests before it hold. Assumes nothing.
use Prim.Native.Nat.{ℕ, ◌≤◌}
use mathlib.Core.Path.{◌≡◌, refl, sym, ◌∙◌}
use mathlib.Core.Bool.{Bool, true, false}
use native.Mathlib.Omega.{arith}
use lib.Dec.{eqb}
use borrow.Author.Tests.{eqb-true, eq-eqb, leb-true}
use Rattle.refusal.specs.declared.Refusal.{Refusal}
use Rattle.refusal.specs.Numbers.{number}
use Rattle.refusal.proofs.Refused.{refuses}
use Rattle.message.proofs.Tests.{and_l, and_r, cases}
use Rattle.ring.specs.Numbers.{first_needs, need}
use Rattle.ring.specs.Ring.{allowed}

-- a chain of one test that holds
pub tested : (t : Bool) (c : ℕ) → t ≡ true → need t c 0 ≡ 0
unfolding need
tested t c e = rw e

-- a test of a chain that holds
pub ok : {t : Bool} {r : ℕ} (c : ℕ) → t ≡ true → need t c r ≡ r
unfolding need
ok c e = rw e

-- true and false differ
pub true_false : {X : Type 0} → ◌≡◌ {A = Bool} true false → X
true_false e = let z : ◌≡◌ {A = ℕ} 0 1 = cc in absurd (omega arith)

-- a chain that answers x, another number than this test's: the test holds, and the rest answers x
pub passed : (t : Bool) (k r x : ℕ) → eqb k x ≡ false → need t k r ≡ x → t ≡ true
unfolding need
passed true k r x n e = refl
passed false k r x n e = true_false (sym (eq-eqb k x e) ∙ n)

pub passed_rest : (t : Bool) (k r x : ℕ) → eqb k x ≡ false → need t k r ≡ x → r ≡ x
unfolding need
passed_rest true k r x n e = e
passed_rest false k r x n e = true_false (sym (eq-eqb k x e) ∙ n)

-- what a step has whose answer x is none of 1, 2 and 3
pub record Entered (d n : ℕ) : Type 0 where
  pub sixteen : d ≡ 16
  pub is_allowed : allowed n ≡ true
  pub low : 1024 ≤ n
  pub high : n ≤ 16384

pub allowed-low : (n : ℕ) → allowed n ≡ true → 1024 ≤ n
unfolding allowed
allowed-low n e = leb-true 1024 n (search (and_l, and_r))

pub allowed-high : (n : ℕ) → allowed n ≡ true → n ≤ 16384
unfolding allowed
allowed-high n e = leb-true n 16384 (search (and_l, and_r))

module _ (d n : ℕ) (fits : Bool) (r x : ℕ) (n₁ : eqb 1 x ≡ false) (n₂ : eqb 2 x ≡ false) (n₃ : eqb 3 x ≡ false)
    (e : first_needs d n fits r ≡ x) where
  after_1 : need (allowed n) 2 (need fits 3 r) ≡ x
  unfolding first_needs
  after_1 = passed_rest (eqb d 16) 1 (need (allowed n) 2 (need fits 3 r)) x n₁ e

  after_2 : need fits 3 r ≡ x
  after_2 = passed_rest (allowed n) 2 (need fits 3 r) x n₂ after_1

  pub entered : Entered d n
  unfolding first_needs
  entered =
      let a = passed (allowed n) 2 (need fits 3 r) x n₂ after_1 in
      record {
        sixteen = eqb-true d 16 (passed (eqb d 16) 1 (need (allowed n) 2 (need fits 3 r)) x n₁ e);
        is_allowed = a;
        low = allowed-low n a;
        high = allowed-high n a;
      }

  pub entered_fits : fits ≡ true
  entered_fits = passed fits 3 r x n₃ after_2

  pub entered_rest : r ≡ x
  entered_rest = passed_rest fits 3 r x n₃ after_2

-- what every call judges first: past it the rest of the chain says the number, and a refusal there is the chain's
module _ (d n : ℕ) (fits : Bool) (later : ℕ) where
  pub first-needs-none : first_needs d n fits 0 ≡ 0 → first_needs d n fits later ≡ later
  unfolding first_needs need
  first-needs-none e =
      cases (eqb d 16)
      (λ t₁. cases (allowed n)
      (λ t₂. cases fits (λ t₃. rw (t₁, t₂, t₃)) (λ t₃. true_false (sym (eq-eqb 3 0 (rw (t₁, t₂, t₃) at e)))))
      (λ t₂. true_false (sym (eq-eqb 2 0 (rw (t₁, t₂) at e)))))
      (λ t₁. true_false (sym (eq-eqb 1 0 (rw t₁ at e))))

  pub first-needs-one : (r : Refusal) → number r ≡ first_needs d n fits 0 → number r ≡ first_needs d n fits later
  unfolding first_needs need
  first-needs-one r e =
      cases (eqb d 16)
      (λ t₁. cases (allowed n)
      (λ t₂. cases fits (λ t₃. absurd (refuses r (rw (t₁, t₂, t₃) at e))) (λ t₃. rw (t₁, t₂, t₃) (rw (t₁, t₂, t₃) at e)))
      (λ t₂. rw (t₁, t₂) (rw (t₁, t₂) at e)))
      (λ t₁. rw t₁ (rw t₁ at e))
