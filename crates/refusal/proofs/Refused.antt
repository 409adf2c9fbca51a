-- An answer that is refused has not number 0, and one of number 0 is accepted.
use Prim.Native.Nat.{ℕ}
use mathlib.Core.Path.{◌≡◌, sym, ◌∙◌}
use mathlib.Core.Bool.{Bool, true, false}
use native.Mathlib.Omega.{arith}
use borrow.Author.Tests.{eq-eqb}
use Rattle.refusal.specs.declared.Refusal.{Refusal}
use Rattle.refusal.specs.Numbers.{number}
use Rattle.refusal.proofs.NotZero.{number-not-0}

pub refuses : (r : Refusal) → number r ≡ 0 → ⊥
refuses r e =
    let t : ◌≡◌ {A = Bool} true false = sym (eq-eqb (number r) 0 e) ∙ number-not-0 r in
    let z : ◌≡◌ {A = ℕ} 0 1 = cc in
    absurd (omega arith)
