-- What a choice and a chain of tests say. Assumes nothing.
use Prim.Native.Nat.{ℕ, zero, suc}
use mathlib.Core.Path.{◌≡◌, refl, sym, ◌∙◌}
use mathlib.Core.Bool.{Bool, true, false, ◌&&◌, cond}
use native.Mathlib.Omega.{arith}
use lib.Dec.{eqb}
use borrow.Author.Tests.{eq-eqb, ne_eqb}

-- what holds of both sides holds of the one that is chosen
pub either : {A : Type 0} (P : A → Type 0) (t : Bool) (a b : A) → (t ≡ true → P a) → (t ≡ false → P b) → P (cond t a b)
either P true a b f g = f refl
either P false a b f g = g refl

-- by cases on a test
pub cases : {X : Type 0} (t : Bool) → (t ≡ true → X) → (t ≡ false → X) → X
cases true f g = f refl
cases false f g = g refl

pub true_false : {X : Type 0} → ◌≡◌ {A = Bool} true false → X
true_false e = let z : ◌≡◌ {A = ℕ} 0 1 = cc in absurd (omega arith)

pub both : (a b : Bool) → (a && b) ≡ true → (a ≡ true) × (b ≡ true)
both true b e = (refl, e)
both false b e = true_false (sym e)

-- a chain that answers 0: this test, whose number is not 0, is not met, and the rest answers 0
pub unmet : (t : Bool) (k r : ℕ) → eqb k 0 ≡ false → cond t k r ≡ 0 → (t ≡ false) × (r ≡ 0)
unmet true k r n e = true_false (sym (eq-eqb k 0 e) ∙ n)
unmet false k r n e = (refl, e)

-- where what is judged after a number answers 0, so does the number
pub both_pass : (n after : ℕ) → cond (eqb n 0) after n ≡ 0 → (n ≡ 0) × (after ≡ 0)
both_pass zero after e = (refl, e)
both_pass (suc n) after e = let z : suc n ≡ 0 = rw (ne_eqb (suc n) 0 (λ q. absurd (omega arith))) at e in absurd (omega arith)
