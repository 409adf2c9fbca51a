-- Laws of `all` and `first_from`: how a walk goes on and how it ends. Assumes nothing.
use Prim.Native.Nat.{ℕ, zero, suc, ◌+◌, ◌-◌, ◌≤◌, ◌<◌}
use mathlib.Core.Path.{◌≡◌, refl, sym, ap, ◌∙◌}
use mathlib.Core.Bool.{Bool, true, false, not, cond, and-false}
use native.Mathlib.Numerals.{add-one}
use mathlib.Core.Logic.{⊎_elim}
use native.Mathlib.Nat.{eq-or-lt_of_le}
use native.Mathlib.Omega.{arith}
use Rattle.firmware.specs.Cpd.{all, first_from}
use lib.Dec.{leb, ltb}
use borrow.Author.Tests.{leb-true, leb-false, ltb-true, ltb-false}
use Rattle.firmware.proofs.Tests.{both, cases, true_false}

pub all_more : (p : ℕ → Bool) (n : ℕ) → all p n ≡ true → p n ≡ true → all p (n + 1) ≡ true
unfolding all
all_more p n h q = rw (add-one n, h, q)

-- one that fails is enough
pub all_fails : (p : ℕ → Bool) (n j : ℕ) → j < n → p j ≡ false → all p n ≡ false
unfolding all
all_fails p zero j h q = absurd (omega arith)
all_fails p (suc n) j h q =
    let le : j ≤ n = omega arith in
    ⊎_elim
    (λ e. let r : p n ≡ false = rw e at q in rw r (and-false (all p n)))
    (λ l. rw (all_fails p n j l q))
    (eq-or-lt_of_le le)

-- what holds of all holds of one
pub all-holds : (p : ℕ → Bool) (n j : ℕ) → j < n → all p n ≡ true → p j ≡ true
unfolding all
all-holds p zero j h e = absurd (omega arith)
all-holds p (suc n) j h e =
    let t = both (all p n) (p n) e in
    let le : j ≤ n = omega arith in
    ⊎_elim (λ q. rw q t.1) (λ l. all-holds p n j l t.0) (eq-or-lt_of_le le)

-- the same of each number that is asked
pub all_same : (p q : ℕ → Bool) (n : ℕ) → ((j : ℕ) → j < n → p j ≡ q j) → all p n ≡ all q n
unfolding all
all_same p q zero h = refl
all_same p q (suc n) h = rw (all_same p q n (λ j l. h j (omega arith)), h n (omega arith))

pub first_same : (p q : ℕ → Bool) (i n : ℕ) → ((j : ℕ) → p j ≡ q j) → first_from p i n ≡ first_from q i n
unfolding first_from
first_same p q i zero h = refl
first_same p q i (suc n) h = rw (h i, first_same p q (suc i) n h)

first_step : (p : ℕ → Bool) (n i : ℕ) → i < n → first_from p i (n - i) ≡ cond (p i) i (first_from p (i + 1) (n - (i + 1)))
unfolding first_from
first_step p n i h =
    let e : n - i ≡ suc (n - (i + 1)) = omega arith in
    rw (e, add-one i)

-- a walk over n numbers that has come to i
module _ (p : ℕ → Bool) (n : ℕ) where
  pub passes : (i : ℕ) {x : ℕ} → i < n → p i ≡ false → x ≡ first_from p i (n - i) → x ≡ first_from p (i + 1) (n - (i + 1))
  passes i h q e = e ∙ first_step p n i h ∙ rw q

  pub finds : (i : ℕ) {x : ℕ} → i < n → p i ≡ true → x ≡ first_from p i (n - i) → i ≡ x
  finds i h q e = sym (e ∙ first_step p n i h ∙ rw q)

  pub ends : (i : ℕ) {x : ℕ} → n ≤ i → x ≡ first_from p i (n - i) → i ≡ x
  unfolding first_from
  ends i h e = let z : n - i ≡ 0 = omega arith in sym (e ∙ rw z)

-- a test that holds of each number holds of all
pub all-each : (p : ℕ → Bool) (n : ℕ) → ((j : ℕ) → j < n → p j ≡ true) → all p n ≡ true
unfolding all
all-each p zero h = refl
all-each p (suc n) h = rw (all-each p n (λ j l. h j (omega arith)), h n (omega arith))

-- what a walk from i over n numbers comes to: none before it holds, and where it is no further than they go it holds
pub first_unmet : (p : ℕ → Bool) (i n j : ℕ) → i ≤ j → j < first_from p i n → p j ≡ false
unfolding first_from
first_unmet p i zero j h l = absurd (omega arith)
first_unmet p i (suc n) j h l =
    cases (p i)
    (λ t. let g : j < i = rw t at l in absurd (omega arith))
    (λ t.
    let g : j < first_from p (suc i) n = rw t at l in
    ⊎_elim (λ q. rw (← q) t) (λ m. first_unmet p (suc i) n j m g) (eq-or-lt_of_le h))

pub first_met : (p : ℕ → Bool) (i n : ℕ) → first_from p i n < i + n → p (first_from p i n) ≡ true
unfolding first_from
first_met p i zero l = absurd (omega arith)
first_met p i (suc n) l =
    cases (p i)
    (λ t. rw t t)
    (λ t.
    let g : first_from p (suc i) n < i + suc n = rw t at l in
    rw t (first_met p (suc i) n (omega arith)))

-- it comes to one of them, or to the number after them
pub first-within : (p : ℕ → Bool) (i n : ℕ) → (i ≤ first_from p i n) × (first_from p i n ≤ i + n)
unfolding first_from
first-within p i zero = (omega arith, omega arith)
first-within p i (suc n) =
    cases (p i)
    (λ t. rw t (omega arith, omega arith))
    (λ t. let g = first-within p (suc i) n in rw t (omega (arith, g.0), omega (arith, g.1)))

-- no number holds exactly where the walk comes to its end
pub none_met : (p : ℕ → Bool) (n : ℕ) → all (λ j. not (p j)) n ≡ leb n (first_from p 0 n)
none_met p n =
    cases (leb n (first_from p 0 n))
    (λ t.
    let g : n ≤ first_from p 0 n = leb-true n (first_from p 0 n) t in
    all-each (λ j. not (p j)) n (λ j l. ap not (first_unmet p 0 n j (omega arith) (omega arith))) ∙ sym t)
    (λ t.
    let g : first_from p 0 n < n = leb-false n (first_from p 0 n) t in
    all_fails (λ j. not (p j)) n (first_from p 0 n) g (ap not (first_met p 0 n (omega arith))) ∙ sym t)

-- where one number holds, and none before it, the walk comes to that one
pub first-at : (p : ℕ → Bool) (n i : ℕ) → i < n → p i ≡ true → ((j : ℕ) → j < i → p j ≡ false) → first_from p 0 n ≡ i
first-at p n i l t before =
    cases (ltb i (first_from p 0 n))
    (λ u. true_false (sym t ∙ first_unmet p 0 n i (omega arith) (ltb-true i (first_from p 0 n) u)))
    (λ u.
    let g : first_from p 0 n ≤ i = ltb-false i (first_from p 0 n) u in
    cases (ltb (first_from p 0 n) i)
    (λ v.
    let m : first_from p 0 n < i = ltb-true (first_from p 0 n) i v in
    true_false (sym (first_met p 0 n (omega arith)) ∙ before (first_from p 0 n) m))
    (λ v. omega (arith, ltb-false (first_from p 0 n) i v)))
