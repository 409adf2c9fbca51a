-- Laws of `count_from`: how many numbers hold, by what walks come to. Assumes nothing.
use Prim.Native.Nat.{ℕ, zero, suc, ◌+◌, ◌-◌, ◌≤◌, ◌<◌}
use mathlib.Core.Path.{◌≡◌, refl, sym, ◌∙◌}
use mathlib.Core.Bool.{Bool, true}
use native.Mathlib.Numerals.{add-one}
use native.Mathlib.Omega.{arith}
use lib.Dec.{ltb}
use borrow.Author.Tests.{ltb-true, ltb-false}
use Rattle.firmware.specs.Cpd.{count_from, first_from}
use Rattle.firmware.proofs.Search.{first_met, first_unmet, first-within}
use Rattle.firmware.proofs.Tests.{cases, true_false}

-- how many numbers hold: none where the walk comes to its end, else the one that it comes to and those behind it
pub count_none : (p : ℕ → Bool) (i n : ℕ) → i + n ≤ first_from p i n → count_from p i n ≡ 0
unfolding first_from count_from
count_none p i zero h = refl
count_none p i (suc n) h =
    cases (p i)
    (λ t. let g : i + suc n ≤ i = rw t at h in absurd (omega arith))
    (λ t.
    let g : i + suc n ≤ first_from p (suc i) n = rw t at h in
    rw t (omega (arith, count_none p (suc i) n (omega arith))))

pub count_met :
    (p : ℕ → Bool) (i n f : ℕ) → f ≡ first_from p i n → f < i + n
    → count_from p i n ≡ 1 + count_from p (f + 1) (i + n - (f + 1))
unfolding first_from count_from
count_met p i zero f e l = absurd (omega (arith, e))
count_met p i (suc n) f e l =
    cases (p i)
    (λ t.
    let g : f ≡ i = rw t at e in
    let d : i + suc n - (i + 1) ≡ n = omega arith in
    rw (t, g, d, add-one i))
    (λ t.
    let g : f ≡ first_from p (suc i) n = rw t at e in
    let d : i + suc n ≡ suc i + n = omega arith in
    rw (t, d) (omega (arith, count_met p (suc i) n f g (omega arith))))

-- what a walk has met, of the n numbers from 0 on
module _ (p : ℕ → Bool) (n : ℕ) where
  abbrev first : ℕ
  first = first_from p 0 n

  abbrev second : ℕ
  second = first_from p (first + 1) (n - (first + 1))

  counted : first < n → count_from p 0 n ≡ 1 + count_from p (first + 1) (n - (first + 1))
  counted l =
      let z : 0 + n ≡ n = omega arith in
      rw z at (count_met p 0 n first refl (omega arith))

  none-counted : n ≤ first → count_from p 0 n ≡ 0
  none-counted l = count_none p 0 n (omega arith)

  -- where one holds, the walk comes to it or to one before it
  comes : (j : ℕ) → j < n → p j ≡ true → first ≤ j
  comes j l t =
      cases (ltb j first)
      (λ u. true_false (sym t ∙ first_unmet p 0 n j (omega arith) (ltb-true j first u)))
      (λ u. ltb-false j first u)

  -- none counted: none holds
  pub count_zero : count_from p 0 n ≡ 0 → (j : ℕ) → j < n → p j ≡ true → ⊥
  count_zero z j l t =
      let f : first ≤ j = comes j l t in
      absurd (omega (arith, z, counted (omega (arith, f))))

  pub zero_count : ((j : ℕ) → j < n → p j ≡ true → ⊥) → count_from p 0 n ≡ 0
  zero_count h =
      cases (ltb first n)
      (λ u. absurd (h first (ltb-true first n u) (first_met p 0 n (omega (arith, ltb-true first n u)))))
      (λ u. none-counted (ltb-false first n u))

  -- some counted: the first holds
  pub count_some : (count_from p 0 n ≡ 0 → ⊥) → (first < n) × (p first ≡ true)
  count_some z =
      cases (ltb first n)
      (λ u. (ltb-true first n u, first_met p 0 n (omega (arith, ltb-true first n u))))
      (λ u. absurd (z (none-counted (ltb-false first n u))))

  -- two counted: the first holds, and another behind it
  pub count-two : 1 < count_from p 0 n → (first < second) × (second < n) × (p first ≡ true) × (p second ≡ true)
  count-two l =
      let f = count_some (λ z. absurd (omega (arith, l, z))) in
      let k = counted f.0 in
      let w = first-within p (first + 1) (n - (first + 1)) in
      cases (ltb second n)
      (λ u.
      let s : second < n = ltb-true second n u in
      (omega (arith, w.0), s, f.1, first_met p (first + 1) (n - (first + 1)) (omega (arith, s, f.0))))
      (λ u.
      let z = count_none p (first + 1) (n - (first + 1)) (omega (arith, ltb-false second n u, f.0)) in
      absurd (omega (arith, l, k, z)))

  pub two-count : (i j : ℕ) → i < j → j < n → p i ≡ true → p j ≡ true → 1 < count_from p 0 n
  two-count i j h l t u =
      let f : first ≤ i = comes i (omega arith) t in
      let k = counted (omega (arith, f)) in
      cases (ltb j second)
      (λ v. true_false (sym u ∙ first_unmet p (first + 1) (n - (first + 1)) j (omega (arith, f)) (ltb-true j second v)))
      (λ v.
      let s : second ≤ j = ltb-false j second v in
      let m = count_met p (first + 1) (n - (first + 1)) second refl (omega (arith, s, f)) in
      omega (arith, k, m))
