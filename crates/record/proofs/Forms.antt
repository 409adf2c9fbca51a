-- The numbers of a file, one by one: what the first is to the forms, the run and the starts. Assumes nothing.
use Prim.Native.Nat.{ℕ, zero, suc, ◌+◌, ◌*◌, ◌%◌, ◌≤◌}
use mathlib.Core.Path.{◌≡◌, refl, sym, ap, ◌∙◌}
use mathlib.Core.Bool.{cond}
use mathlib.Core.List.{List, [], ◌∷◌, map}
use native.Mathlib.Omega.{arith}
use borrow.Author.Tests.{eqb-true, eqb-false, eq-eqb, ne_eqb}
use lib.ListN.{length, take, drop, length-drop}
use lib.Seq.{drop-drop}
use lib.Dec.{eqb, ltb}
use Rattle.message.proofs.Tests.{cases}
use Rattle.record.specs.Numbers.{good, led, form_of, number_of}
use Rattle.record.specs.Files.{forms_from, forms, value_of, run_of, size_of, start_of}
use Rattle.record.specs.Numbers.{Form}

-- a good form that leads with a group is one of good others that are not 0
pub led-good :
    (b : ℕ) (o : Form) → (led b o).fault ≡ 0
    → (o.fault ≡ 0) × (1 ≤ o.value) × (led b o ≡ good (b % 128 + 128 * o.value) (1 + o.size))
unfolding led
led-good b o h =
    cases (eqb o.fault 0)
    (λ e.
    cases (eqb o.value 0)
    (λ z. absurd (omega (arith, (rw (e, z) at h))))
    (λ z.
    let n : o.value ≡ 0 → ⊥ = eqb-false o.value 0 z in
    (eqb-true o.fault 0 e, omega arith, rw (e, z))))
    (λ e. absurd (eqb-false o.fault 0 e (rw e at h)))

-- the bytes of a good form
form_size :
    (k : ℕ) (f : List ℕ) → (form_of k f).fault ≡ 0
    → (1 ≤ (form_of k f).size) × ((form_of k f).size ≤ suc k) × ((form_of k f).size ≤ length f)
unfolding form_of
form_size k [] h = absurd (omega arith)
form_size zero (b ∷ bs) h =
    cases (ltb b 16) (λ e. rw e (omega arith)) (λ e. absurd (omega (arith, (rw e at h))))
form_size (suc k) (b ∷ bs) h =
    cases (ltb b 128)
    (λ e. rw e (omega arith))
    (λ e.
    let l = led-good b (form_of k bs) (rw e at h) in
    let i = form_size k bs l.0 in
    rw (e, l.2) (omega arith))

-- no number starts where there is no byte
pub number_nil : (number_of []).fault ≡ 0 → ⊥
unfolding number_of
number_nil h = omega arith

-- a number takes one byte to five, which are there
pub number_size :
    (f : List ℕ) → (number_of f).fault ≡ 0
    → (1 ≤ (number_of f).size) × ((number_of f).size ≤ 5) × ((number_of f).size ≤ length f)
unfolding number_of
number_size [] h = absurd (omega arith)
number_size (b ∷ bs) h = form_size 4 (b ∷ bs) h

-- by whether a number starts here
pub split :
    {X : Type 0} (f : List ℕ) → ((number_of f).fault ≡ 0 → X) → (((number_of f).fault ≡ 0 → ⊥) → X) → X
split f x y =
    cases (eqb (number_of f).fault 0)
    (λ e. x (eqb-true (number_of f).fault 0 e))
    (λ e. y (eqb-false (number_of f).fault 0 e))

-- what is behind the first number is shorter
pub shorter : (f : List ℕ) → (number_of f).fault ≡ 0 → suc (length (drop (number_of f).size f)) ≤ length f
shorter f h = let s = number_size f h in omega (arith, length-drop (number_of f).size f)

-- as many steps as there are bytes are enough
forms_fuel :
    (j k : ℕ) (f : List ℕ) → length f ≤ j → length f ≤ k → forms_from j f ≡ forms_from k f
unfolding forms_from
forms_fuel zero zero f g h = refl
forms_fuel zero (suc k) f g h =
    let n : (number_of f).fault ≡ 0 → ⊥ = λ e. omega (arith, shorter f e) in
    rw (ne_eqb (number_of f).fault 0 n)
forms_fuel (suc j) zero f g h =
    let n : (number_of f).fault ≡ 0 → ⊥ = λ e. omega (arith, shorter f e) in
    rw (ne_eqb (number_of f).fault 0 n)
forms_fuel (suc j) (suc k) f g h =
    split f
    (λ e.
    let s = shorter f e in
    let i = forms_fuel j k (drop (number_of f).size f) (omega arith) (omega arith) in
    ap (λ (l : List Form). cond (eqb (number_of f).fault 0) (number_of f ∷ l) []) i)
    (λ e. rw (ne_eqb (number_of f).fault 0 e))

forms_step : (m : ℕ) (f : List ℕ) → length f ≤ m → forms f ≡ forms_from m f
unfolding forms
forms_step m f h = forms_fuel (length f) m f (omega arith) h

-- the forms of a file, by its first number
pub forms-good :
    (f : List ℕ) → (number_of f).fault ≡ 0 → forms f ≡ number_of f ∷ forms (drop (number_of f).size f)
unfolding forms_from
forms-good f h =
    let s = shorter f h in
    let i = forms_step (length f) (drop (number_of f).size f) (omega arith) in
    let j : forms f ≡ number_of f ∷ forms_from (length f) (drop (number_of f).size f) =
    forms_step (suc (length f)) f (omega arith) ∙ rw (eq-eqb (number_of f).fault 0 h) in
    rw i j

-- .. where there is none
pub forms-bad : (f : List ℕ) → ((number_of f).fault ≡ 0 → ⊥) → forms f ≡ []
unfolding forms_from
forms-bad f h =
    let t = forms_step (suc (length f)) f (omega arith) in
    rw (t, ne_eqb (number_of f).fault 0 h)

-- its run
pub run-good :
    (f : List ℕ) → (number_of f).fault ≡ 0 → run_of f ≡ (number_of f).value ∷ run_of (drop (number_of f).size f)
unfolding run_of
run-good f h = ap (map value_of) (forms-good f h)

-- .. where there is none
pub run-bad : (f : List ℕ) → ((number_of f).fault ≡ 0 → ⊥) → run_of f ≡ []
unfolding run_of
run-bad f h = ap (map value_of) (forms-bad f h)

-- where its numbers start
pub start_zero : (f : List ℕ) → start_of f 0 ≡ 0
unfolding start_of size_of
start_zero f = refl

-- .. behind the first
pub start_suc :
    (f : List ℕ) (k : ℕ) → (number_of f).fault ≡ 0
    → start_of f (suc k) ≡ (number_of f).size + start_of (drop (number_of f).size f) k
unfolding start_of size_of
start_suc f k h = ap (λ (l : List Form). size_of (take (suc k) l)) (forms-good f h)

start_none : (f : List ℕ) (k : ℕ) → forms f ≡ [] → start_of f k ≡ 0
unfolding start_of size_of
start_none f zero e = refl
start_none f (suc k) e = rw e

-- .. where there is none
pub start-bad : (f : List ℕ) (k : ℕ) → ((number_of f).fault ≡ 0 → ⊥) → start_of f k ≡ 0
start-bad f k h = start_none f k (forms-bad f h)

-- each within the file
pub start-within : (f : List ℕ) (k : ℕ) → start_of f k ≤ length f
start-within f zero = rw (start_zero f) (omega arith)
start-within f (suc k) =
    split f
    (λ e.
    let s = number_size f e in
    omega (arith, start_suc f k e, start-within (drop (number_of f).size f) k, length-drop (number_of f).size f))
    (λ e. omega (arith, start-bad f (suc k) e))

-- a byte at least for each number
pub start_least : (f : List ℕ) (k : ℕ) → k ≤ length (run_of f) → k ≤ start_of f k
start_least f zero h = omega arith
start_least f (suc k) h =
    split f
    (λ e.
    let s = number_size f e in
    let r : length (run_of f) ≡ suc (length (run_of (drop (number_of f).size f))) = ap length (run-good f e) in
    omega (arith, start_suc f k e, start_least (drop (number_of f).size f) k (omega arith)))
    (λ e.
    let r : length (run_of f) ≡ 0 = ap length (run-bad f e) in
    absurd (omega arith))

-- numbers behind others start behind them
pub start_add :
    (f : List ℕ) (k j : ℕ) → start_of f (k + j) ≡ start_of f k + start_of (drop (start_of f k) f) j
start_add f zero j =
    let e : 0 + j ≡ j = omega arith in
    rw (start_zero f, e) (omega arith)
start_add f (suc k) j =
    let e : suc k + j ≡ suc (k + j) = omega arith in
    split f
    (λ h.
    let g = drop (number_of f).size f in
    let n = (number_of f).size in
    let d : drop (start_of g k) g ≡ drop (n + start_of g k) f = drop-drop (start_of g k) n f in
    let i : start_of g (k + j) ≡ start_of g k + start_of (drop (n + start_of g k) f) j = rw d at (start_add g k j) in
    rw (e, start_suc f (k + j) h, start_suc f k h) (omega arith))
    (λ h. rw (start-bad f (suc k + j) h, start-bad f (suc k) h, start-bad f j h))

-- the run behind some numbers
pub run_drop : (f : List ℕ) (k : ℕ) → k ≤ length (run_of f) → run_of (drop (start_of f k) f) ≡ drop k (run_of f)
run_drop f zero l = rw (start_zero f)
run_drop f (suc k) l =
    split f
    (λ h.
    let g = drop (number_of f).size f in
    let r : length (run_of f) ≡ suc (length (run_of g)) = ap length (run-good f h) in
    let n = (number_of f).size in
    let d : drop (start_of g k) g ≡ drop (n + start_of g k) f = drop-drop (start_of g k) n f in
    rw (start_suc f k h, run-good f h, ← d) (run_drop g k (omega arith)))
    (λ h. rw (start-bad f (suc k) h, run-bad f h))

-- a number that was read is there, within the bytes
pub there_within : (f : List ℕ) (v s : ℕ) → good v s ≡ number_of f → s ≤ length f
there_within f v s e = rw (ap (λ n. n.size) e) (number_size f (sym (ap (λ n. n.fault) e))).2
