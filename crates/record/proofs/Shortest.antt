-- A number and its bytes: each gives the other. Assumes nothing.
use Prim.Native.Nat.{ℕ, zero, suc, ◌+◌, ◌*◌, ◌-◌, ◌/◌, ◌%◌, ◌^◌, ◌≤◌, ◌<◌}
use mathlib.Core.Path.{◌≡◌, refl, ap, ◌∙◌}
use mathlib.Core.List.{List, [], ◌∷◌, ◌++◌, flat_map}
use native.Mathlib.Omega.{arith}
use native.Mathlib.Nat.{mod-lt, mod-mod, mod-eq_of_lt, mod-eq-sub-mod, mod-add-div, add-mod_right, div-eq_of_lt}
use native.Mathlib.Nat.{add-mul-div_left, add-mul-mod_self_left}
use borrow.Author.Tests.{ltb-true, ltb-false, lt-ltb, le-ltb, ne_eqb}
use lib.ListN.{length, take, length-append}
use lib.Dec.{ltb}
use Rattle.message.proofs.Tests.{cases}
use Rattle.record.specs.Numbers.{groups, bytes_of, bytes_of_run, good, led, form_of, number_of}
use Rattle.record.specs.MailedHome.{Bytes}
use Rattle.record.proofs.Forms.{led-good}

-- the numbers that have at most k groups behind the first
abbrev limit : ℕ → ℕ
limit zero = 16
limit (suc k) = 128 * limit k

limit_some : (k : ℕ) → 1 ≤ limit k
limit_some zero = omega arith
limit_some (suc k) = let i = limit_some k in omega arith

-- a byte at least, and one for each group at most
groups-length : (k n : ℕ) → (1 ≤ length (groups k n)) × (length (groups k n) ≤ suc k)
unfolding groups
groups-length zero n = omega arith
groups-length (suc k) n =
    let i = groups-length k (n / 128) in
    cases (ltb n 128) (λ e. rw e (omega arith)) (λ e. rw e (omega arith))

-- a number takes one byte to five
pub bytes-length : (n : ℕ) → (1 ≤ length (bytes_of n)) × (length (bytes_of n) ≤ 5)
unfolding bytes_of
bytes-length n = groups-length 4 n

-- a number starts where there is a byte
pub number_form : (f : List ℕ) → 1 ≤ length f → number_of f ≡ form_of 4 f
unfolding number_of
number_form [] h = absurd (omega arith)
number_form (b ∷ bs) h = refl

-- groups that are written and then read
form_there : (k n : ℕ) (rest : List ℕ) → n < limit k → form_of k (groups k n ++ rest) ≡ good n (length (groups k n))
unfolding groups form_of led
form_there zero n rest h = rw (lt-ltb n 16 h)
form_there (suc k) n rest h =
    cases (ltb n 128)
    (λ e. rw (e, e))
    (λ e.
    let g = ltb-false n 128 e in
    let d = mod-add-div n 128 in
    let r : n % 128 < 128 = mod-lt n (omega arith) in
    let q : n / 128 < limit k = omega arith in
    let z : n / 128 ≡ 0 → ⊥ = λ z. omega arith in
    let m : (n % 128 + 128) % 128 ≡ n % 128 = add-mod_right (n % 128) 128 ∙ mod-mod n 128 in
    let s : 1 + length (groups k (n / 128)) ≡ suc (length (groups k (n / 128))) = omega arith in
    rw (e, le-ltb (n % 128 + 128) 128 (omega arith), form_there k (n / 128) rest q, ne_eqb (n / 128) 0 z, m, d, s))

-- a number that is written and then read is the number
pub number_there : (n : ℕ) (rest : List ℕ) → n < 2 ^ 32 → number_of (bytes_of n ++ rest) ≡ good n (length (bytes_of n))
unfolding bytes_of
number_there n rest h =
    let l = groups-length 4 n in
    number_form (groups 4 n ++ rest) (rw length-append (omega arith)) ∙ form_there 4 n rest h

-- groups that are read and then written
form_back :
    (k : ℕ) (f : List ℕ) → Bytes f → (form_of k f).fault ≡ 0
    → ((form_of k f).value < limit k) × (groups k (form_of k f).value ≡ take (form_of k f).size f)
unfolding groups form_of
form_back k [] b h = absurd (omega arith)
form_back zero (x ∷ xs) b h =
    cases (ltb x 16)
    (λ e. let l = ltb-true x 16 e in rw e (omega arith, refl))
    (λ e. absurd (omega (arith, (rw e at h))))
form_back (suc k) (x ∷ xs) b h =
    cases (ltb x 128)
    (λ e.
    let l = ltb-true x 128 e in
    let p = limit_some k in
    rw (e, e) (omega arith, refl))
    (λ e.
    let g = ltb-false x 128 e in
    let w : x < 256 = b 0 in
    let o = form_of k xs in
    let l = led-good x o (rw e at h) in
    let i = form_back k xs (λ j. b (suc j)) l.0 in
    let r : x % 128 < 128 = mod-lt x (omega arith) in
    let v = x % 128 + 128 * o.value in
    let m : x % 128 ≡ x - 128 = mod-eq-sub-mod g ∙ mod-eq_of_lt (omega arith) in
    let a : v % 128 + 128 ≡ x =
    ap (λ (y : ℕ). y + 128) (add-mul-mod_self_left (x % 128) 128 o.value ∙ mod-mod x 128 ∙ m) ∙ omega arith in
    let d : v / 128 ≡ o.value =
    add-mul-div_left (x % 128) o.value (omega arith) ∙ ap (λ (y : ℕ). y + o.value) (div-eq_of_lt r) ∙ omega arith in
    let s : 1 + o.size ≡ suc o.size = omega arith in
    let t : (v < limit (suc k)) × (groups (suc k) v ≡ take (1 + o.size) (x ∷ xs)) =
    (omega arith, rw (le-ltb v 128 (omega arith), a, d, s, i.1)) in
    rw (e, l.2) t)

-- one that is read and then written gives the bytes
pub number_back :
    (file : List ℕ) → Bytes file → (number_of file).fault ≡ 0
    → ((number_of file).value < 2 ^ 32) × (bytes_of (number_of file).value ≡ take (number_of file).size file)
unfolding number_of bytes_of
number_back [] b h = absurd (omega arith)
number_back (x ∷ xs) b h = form_back 4 (x ∷ xs) b h

-- no run needs more than five bytes for a dword
pub five_each : (run : List ℕ) → length (bytes_of_run run) ≤ 5 * length run
unfolding flat_map
five_each [] = omega arith
five_each (x ∷ xs) =
    let b = bytes-length x in
    let i = five_each xs in
    rw length-append (omega arith)
