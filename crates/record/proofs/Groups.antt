-- A number group by group: what the loop that reads one has after a turn. Assumes nothing.
use Prim.Native.Nat.{ℕ, zero, suc, ◌+◌, ◌-◌, ◌*◌, ◌%◌, ◌^◌, ◌≤◌, ◌<◌}
use mathlib.Core.Path.{◌≡◌, refl, sym, ap, ◌∙◌}
use mathlib.Core.Bool.{true, false}
use mathlib.Core.List.{List, [], ◌∷◌}
use native.Mathlib.Nat.{mul-add, mul_assoc}
use native.Mathlib.Numerals.{add-one}
use native.Mathlib.Omega.{arith}
use lib.ListN.{length, get_or, drop, drop_of_length-le}
use lib.Seq.{drop-cons}
use lib.Dec.{eqb, ltb}
use borrow.Author.Tests.{lt-ltb, le-ltb, ne_eqb, eqb-true, eqb-false}
use Rattle.message.proofs.Tests.{cases, and_false}
use Rattle.record.specs.Faults.{unfinished, missing, above}
use Rattle.record.specs.Numbers.{good, faulty, led, form_of, number_of}
use Rattle.record.specs.Private.{ended, carried}
use Rattle.record.specs.Numbers.{Form}

-- a form with its fault written out
same_fault : (f : Form) (k : ℕ) → f.fault ≡ k → record { fault = k; value = f.value; size = f.size } ≡ f
same_fault f k e = ap (λ i. record { fault = i; value = f.value; size = f.size }) (sym e)

-- no group is carried before the first
pub carried_none : (f : Form) → carried 0 1 0 f ≡ f
unfolding carried
carried_none f =
    cases (eqb f.fault 0)
    (λ e.
    let v : 0 + 1 * f.value ≡ f.value = omega arith in
    let s : 0 + f.size ≡ f.size = omega arith in
    rw (e, and_false (eqb f.value 0), v, s) (same_fault f 0 (eqb-true f.fault 0 e)))
    (λ e. rw e)

-- a group that another follows is carried from there on
pub carried_more :
    (v w s b : ℕ) (f : Form) → 128 ≤ b → b < 256
    → carried v w s (led b f) ≡ carried (v + w * (b - 128)) (w * 128) (s + 1) f
unfolding carried led
carried_more v w s b f h l =
    cases (eqb f.fault 0)
    (λ e.
    let pos : ltb 0 (s + 1) ≡ true = lt-ltb 0 (s + 1) (omega arith) in
    cases (eqb f.value 0)
    (λ z. rw (e, z, pos))
    (λ z.
    let n : f.value ≡ 0 → ⊥ = eqb-false f.value 0 z in
    let some : eqb (b % 128 + 128 * f.value) 0 ≡ false = ne_eqb (b % 128 + 128 * f.value) 0 (λ k. n (omega (arith, k))) in
    let group : b % 128 ≡ b - 128 = omega arith in
    let value : v + w * (b % 128 + 128 * f.value) ≡ v + w * (b - 128) + w * 128 * f.value =
    rw (group, mul-add, mul_assoc) (omega arith) in
    let size : s + (1 + f.size) ≡ s + 1 + f.size = omega arith in
    rw (e, z, some, value, size)))
    (λ e. rw (e, e))

-- a last group
pub carried-last : (v w s b : ℕ) → carried v w s (good b 1) ≡ ended v w s b
unfolding carried ended
carried-last v w s b = refl

-- what is no number is none wherever it is carried
pub carried-fault : (v w s k : ℕ) → (k ≡ 0 → ⊥) → carried v w s (faulty k) ≡ faulty k
unfolding carried
carried-fault v w s k h = rw (ne_eqb k 0 h)

-- what a group of seven bits at weight 128 ^ s can hold beside the groups before it
pub holds_group :
    (s v x : ℕ) → s < 4 → v < 128 ^ s → x < 128
    → (v + 128 ^ s * x < 128 ^ s * 128) × (128 ^ s * 128 ≤ 2 ^ 28) × (128 ^ s * 128 ≡ 128 ^ (s + 1))
holds_group zero v x h l m = (omega arith, omega arith, refl)
holds_group (suc zero) v x h l m = (omega arith, omega arith, refl)
holds_group (suc (suc zero)) v x h l m = (omega arith, omega arith, refl)
holds_group (suc (suc (suc zero))) v x h l m = (omega arith, omega arith, refl)
holds_group (suc (suc (suc (suc s)))) v x h l m = absurd (omega arith)

-- ---- the number of some bytes, from its first group on

pub number-none : (f : List ℕ) → length f ≡ 0 → number_of f ≡ faulty missing
unfolding number_of
number-none [] h = refl
number-none (b ∷ bs) h = absurd (omega arith)

pub number-first : (f : List ℕ) → 1 ≤ length f → number_of f ≡ carried 0 1 0 (form_of (4 - 0) (drop 0 f))
unfolding number_of
number-first [] h = absurd (omega arith)
number-first (b ∷ bs) h = sym (carried_none (form_of 4 (b ∷ bs)))

-- a number of one byte
pub one_group : (f : List ℕ) → 1 ≤ length f → get_or f 0 0 < 128 → number_of f ≡ good (get_or f 0 0) 1
unfolding number_of form_of
one_group [] h l = absurd (omega arith)
one_group (b ∷ bs) h l = rw (lt-ltb b 128 l)

module _ (f : List ℕ) (v w s : ℕ) where
  abbrev group : ℕ
  group = get_or f s 0

  -- the bytes end
  pub no_group : (k : ℕ) → length f ≤ s → carried v w s (form_of k (drop s f)) ≡ faulty unfinished
  unfolding form_of
  no_group k h = rw (drop_of_length-le f {i = s} h) (carried-fault v w s unfinished (λ e. omega (arith, e)))

  module _ (there : s < length f) where
    -- a group that is the last
    pub last_group : s < 4 → group < 128 → carried v w s (form_of (4 - s) (drop s f)) ≡ ended v w s group
    unfolding form_of
    last_group h l =
        let e : 4 - s ≡ suc (3 - s) = omega arith in
        rw (e, drop-cons f s 0 there, lt-ltb group 128 l) (carried-last v w s group)

    -- one that another follows
    pub next_group :
        s < 4 → 128 ≤ group → group < 256
        → carried v w s (form_of (4 - s) (drop s f))
        ≡ carried (v + w * (group - 128)) (w * 128) (s + 1) (form_of (4 - (s + 1)) (drop (s + 1) f))
    unfolding form_of
    next_group h l m =
        let e : 4 - s ≡ suc (3 - s) = omega arith in
        let e' : 4 - (s + 1) ≡ 3 - s = omega arith in
        let d : drop s f ≡ group ∷ drop (s + 1) f =
        drop-cons f s 0 there ∙ ap (λ (k : ℕ). group ∷ drop k f) (sym (add-one s)) in
        rw (e, e', d, le-ltb group 128 l) (carried_more v w s group (form_of (3 - s) (drop (s + 1) f)) l m)

    -- the fifth
    pub fifth_group : group < 16 → carried v w s (form_of 0 (drop s f)) ≡ ended v w s group
    unfolding form_of
    fifth_group l = rw (drop-cons f s 0 there, lt-ltb group 16 l) (carried-last v w s group)

    pub wide_group : 16 ≤ group → carried v w s (form_of 0 (drop s f)) ≡ faulty above
    unfolding form_of
    wide_group l = rw (drop-cons f s 0 there, le-ltb group 16 l) (carried-fault v w s above (λ e. omega (arith, e)))
