-- The first row of a rising list that is given has the lowest number that applies, and there is one answer to what is
-- judged. Assumes nothing.
use Prim.Native.Nat.{ℕ, ◌<◌}
use mathlib.Core.Path.{◌≡◌, refl, sym, ◌∙◌, subst}
use mathlib.Core.Logic.{◌↔◌, ◌⊎◌, inl, inr}
use mathlib.Core.Bool.{Bool, true, false, ◌&&◌, cond}
use mathlib.Core.List.{List, [], ◌∷◌, ◌++◌}
use native.Mathlib.Omega.{arith}
use lib.Dec.{eqb, ltb}
use borrow.Author.Tests.{ltb-true, ltb-false, ne_eqb}
use Rattle.message.proofs.Tests.{and_l, and_r, cases}
use Rattle.ring.proofs.Chains.{true_false}
use Rattle.refusals.specs.Order.{AllPass, Answered, Applies, Lowest, NoneApplies, Row}

-- the number of the first row that is given, or 0
unfoldable pub first_of : List Row → ℕ
first_of [] = 0
first_of (r ∷ rs) = cond r.given r.number (first_of rs)

-- each number is above the one before it
unfoldable pub rising : ℕ → List Row → Bool
rising low [] = true
rising low (r ∷ rs) = ltb low r.number && rising r.number rs

-- what is judged, one after another
unfoldable pub first_judged : List (List Row) → ℕ
first_judged [] = 0
first_judged (rs ∷ later) = cond (eqb (first_of rs) 0) (first_judged later) (first_of rs)

unfoldable pub all_rise : List (List Row) → Bool
all_rise [] = true
all_rise (rs ∷ later) = rising 0 rs && all_rise later

-- ---- the rows of one thing

above-first : (low : ℕ) (r : Row) (rs : List Row) → rising low (r ∷ rs) ≡ true → low < r.number
unfolding rising
above-first low r rs e = ltb-true low r.number (and_l _ (rising r.number rs) e)

others_rise : (low : ℕ) (r : Row) (rs : List Row) → rising low (r ∷ rs) ≡ true → rising r.number rs ≡ true
unfolding rising
others_rise low r rs e = and_r (ltb low r.number) _ e

-- every number of a rising list is above its lower bound
above : (low : ℕ) (rs : List Row) (k : ℕ) → rising low rs ≡ true → Applies rs k → low < k
unfolding Applies
above low [] k e a = absurd a
above low (r ∷ rs) k e (inl (q, g)) = subst (λ (n : ℕ). low < n) q (above-first low r rs e)
above low (r ∷ rs) k e (inr a) =
    let p : r.number < k = above r.number rs k (others_rise low r rs e) a in
    let q : low < r.number = above-first low r rs e in
    omega arith

-- the first row that is given: nothing lower applies
given-first :
    (low : ℕ) (r : Row) (rs : List Row) (k : ℕ) → rising low (r ∷ rs) ≡ true → k < r.number → Applies (r ∷ rs) k → ⊥
unfolding Applies
given-first low r rs k e h (inl (q, g)) = absurd (omega (arith, q))
given-first low r rs k e h (inr a) = let p : r.number < k = above r.number rs k (others_rise low r rs e) a in absurd (omega arith)

-- a row that is not given adds nothing
skips : (r : Row) (rs : List Row) (k : ℕ) → r.given ≡ false → Applies (r ∷ rs) k → Applies rs k
unfolding Applies
skips r rs k g (inl (q, t)) = true_false (sym t ∙ g)
skips r rs k g (inr a) = a

-- the lowest number that applies, or none does
FirstIs : List Row → ℕ → Type 0
FirstIs rs c = Lowest rs c ⊎ ((c ≡ 0) × NoneApplies rs)

skipped : (r : Row) (rs : List Row) (c : ℕ) → r.given ≡ false → FirstIs rs c → FirstIs (r ∷ rs) c
unfolding FirstIs Applies
skipped r rs c g (inl l) = inl (record { applies = inr l.applies; no_lower = λ k h a. l.no_lower k h (skips r rs k g a) })
skipped r rs c g (inr (z, n)) = inr (z, λ k a. n k (skips r rs k g a))

given-number : (r : Row) (rs : List Row) → r.given ≡ true → r.number ≡ first_of (r ∷ rs)
unfolding first_of
given-number r rs t = rw t

skipped-number : (r : Row) (rs : List Row) → r.given ≡ false → first_of rs ≡ first_of (r ∷ rs)
unfolding first_of
skipped-number r rs t = rw t

given_is : (low : ℕ) (r : Row) (rs : List Row) → rising low (r ∷ rs) ≡ true → r.given ≡ true → FirstIs (r ∷ rs) r.number
unfolding FirstIs Applies
given_is low r rs e t = inl (record { applies = inl (refl, t); no_lower = λ k h a. given-first low r rs k e h a })

none_is : FirstIs [] (first_of [])
unfolding FirstIs first_of Applies
none_is = inr (refl, λ k a. a)

first_is : (low : ℕ) (rs : List Row) → rising low rs ≡ true → FirstIs rs (first_of rs)
first_is low [] e = none_is
first_is low (r ∷ rs) e =
    cases r.given
    (λ t. subst (FirstIs (r ∷ rs)) (given-number r rs t) (given_is low r rs e t))
    (λ t.
    subst (FirstIs (r ∷ rs)) (skipped-number r rs t)
    (skipped r rs (first_of rs) t (first_is r.number rs (others_rise low r rs e))))

-- ---- one answer

one_lowest : (rs : List Row) (c k : ℕ) → Lowest rs c → Lowest rs k → c ≡ k
one_lowest rs c k p q =
    cases (ltb c k)
    (λ t. absurd (q.no_lower c (ltb-true c k t) p.applies))
    (λ t.
    cases (ltb k c)
    (λ u. absurd (p.no_lower k (ltb-true k c u) q.applies))
    (λ u. omega (arith, ltb-false c k t, ltb-false k c u)))

one_answer : (js : List (List Row)) (c k : ℕ) → Answered js c → Answered js k → c ≡ k
unfolding Answered
one_answer [] c k p q = p ∙ sym q
one_answer (rs ∷ later) c k (inl p) (inl q) = one_lowest rs c k p q
one_answer (rs ∷ later) c k (inl p) (inr (n, q)) = absurd (n c p.applies)
one_answer (rs ∷ later) c k (inr (n, p)) (inl q) = absurd (n k q.applies)
one_answer (rs ∷ later) c k (inr (n, p)) (inr (m, q)) = one_answer later c k p q

goes_on :
    (rs : List Row) (later : List (List Row)) → rising 0 rs ≡ true → Answered later (first_judged later)
    → FirstIs rs (first_of rs)
    → Answered (rs ∷ later) (first_judged (rs ∷ later))
unfolding Answered first_judged FirstIs
goes_on rs later e p (inl l) =
    let z : eqb (first_of rs) 0 ≡ false = ne_eqb (first_of rs) 0 (λ q. absurd (omega (arith, above 0 rs (first_of rs) e l.applies))) in
    rw z (inl l)
goes_on rs later e p (inr (z, n)) = rw z (inr (n, p))

judged-first : (js : List (List Row)) → all_rise js ≡ true → Answered js (first_judged js)
unfolding Answered first_judged all_rise
judged-first [] e = refl
judged-first (rs ∷ later) e =
    let r : rising 0 rs ≡ true = and_l (rising 0 rs) (all_rise later) e in
    goes_on rs later r (judged-first later (and_r (rising 0 rs) (all_rise later) e)) (first_is 0 rs r)

-- a call whose number is that of the first row given answers exactly as the table says
pub exactly :
    (js : List (List Row)) (number c : ℕ) → all_rise js ≡ true → number ≡ first_judged js → (number ≡ c) ↔ Answered js c
exactly js number c e same =
    let is : Answered js number = subst (Answered js) (sym same) (judged-first js e) in
    ((λ q. subst (Answered js) q is), (λ a. one_answer js number c is a))

-- 0 is answered exactly where all pass
all_pass : (js : List (List Row)) → all_rise js ≡ true → Answered js 0 → AllPass js
unfolding Answered AllPass all_rise
all_pass [] e a = tt
all_pass (rs ∷ later) e (inl l) =
    absurd (omega (arith, above 0 rs 0 (and_l (rising 0 rs) (all_rise later) e) l.applies))
all_pass (rs ∷ later) e (inr (n, a)) = (n, all_pass later (and_r (rising 0 rs) (all_rise later) e) a)

pass_all : (js : List (List Row)) → AllPass js → Answered js 0
unfolding Answered AllPass
pass_all [] p = refl
pass_all (rs ∷ later) (n, p) = inr (n, pass_all later p)

pub accepts : (js : List (List Row)) (number : ℕ) → all_rise js ≡ true → number ≡ first_judged js → (number ≡ 0) ↔ AllPass js
accepts js number e same =
    let x = exactly js number 0 e same in
    ((λ q. all_pass js e (x.0 q)), (λ p. x.1 (pass_all js p)))

-- rows behind others: they are asked where none of those is given
pub first-behind :
    (low : ℕ) (rs more : List Row) → rising low rs ≡ true
    → first_of (rs ++ more) ≡ cond (eqb (first_of rs) 0) (first_of more) (first_of rs)
unfolding first_of
first-behind low [] more e = refl
first-behind low (r ∷ rs) more e =
    cases r.given
    (λ t.
    let z : eqb r.number 0 ≡ false = ne_eqb r.number 0 (λ q. absurd (omega (arith, above-first low r rs e))) in
    rw (t, z))
    (λ t. rw t (first-behind r.number rs more (others_rise low r rs e)))
