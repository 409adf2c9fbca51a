-- The ring: offsets modulo N, and runs of dwords read and stored around it. Assumes nothing.
use mathlib.Core.Path.{◌≡◌, refl, sym, ap, ◌∙◌}
use mathlib.Core.Logic.{◌≢◌}
use mathlib.Core.List.{List, [], ◌∷◌, ◌++◌}
use Prim.Native.Nat.{ℕ, zero, suc, ◌+◌, ◌-◌, ◌%◌, ◌≤◌, ◌<◌}
use native.Mathlib.Nat.{mod-lt, mod-eq_of_lt, mod-add-mod, add-mod_right, mod-eq-sub-mod, mod_self, suc-mod}
use native.Mathlib.Decide.{dec_lt}
use native.Mathlib.Omega.{arith}
use lib.ListN.{length, get_or, set, take, length-set}
use lib.Seq.{get_or-set_other, take-suc, length-take-le}
use Rattle.runs.specs.Buffer.{stored, window}

-- the distance between two offsets that are less than N apart
pub gap : (n r u : ℕ) → u < n → ((r + u) % n + n - r % n) % n ≡ u
gap n r u h = elim (dec_lt (r % n + u) n) [ yes l ↦ small l | no k ↦ big k ]
  where
    small : r % n + u < n → ((r + u) % n + n - r % n) % n ≡ u
    small l =
        let e : (r + u) % n ≡ r % n + u = sym (mod-add-mod r n u) ∙ mod-eq_of_lt l in
        ap (λ (x : ℕ). x % n) (omega arith) ∙ add-mod_right u n ∙ mod-eq_of_lt h

    big : ¬ (r % n + u < n) → ((r + u) % n + n - r % n) % n ≡ u
    big k =
        let l : n ≤ r % n + u = omega arith in
        let z : r % n < n = mod-lt r (omega arith) in
        let s : r % n + u - n < n = omega arith in
        let e : (r + u) % n ≡ r % n + u - n = sym (mod-add-mod r n u) ∙ mod-eq-sub-mod l ∙ mod-eq_of_lt s in
        ap (λ (x : ℕ). x % n) (omega arith) ∙ mod-eq_of_lt h

-- places less than N apart differ
pub apart : (n i j : ℕ) → i < j → j < i + n → i % n ≢ j % n
apart n i j h k e =
    let u : ℕ = j - i in
    let f : i + u ≡ j = omega arith in
    let g : ((i + u) % n + n - i % n) % n ≡ u = gap n i u (omega arith) in
    let z : (i + u) % n ≡ i % n = ap (λ (x : ℕ). x % n) f ∙ sym e in
    let w : (i + u) % n + n - i % n ≡ n = omega arith in
    let v : ((i + u) % n + n - i % n) % n ≡ 0 = ap (λ (x : ℕ). x % n) w ∙ mod_self n in
    omega arith

pub window-length : (b : List ℕ) (n i k : ℕ) → length (window b n i k) ≡ k
unfolding window
window-length b n i zero = refl
window-length b n i (suc k) = ap suc (window-length b n (suc i) k)

pub window-append : (b : List ℕ) (n i j k : ℕ) → window b n i (j + k) ≡ window b n i j ++ window b n (i + j) k
unfolding window
window-append b n i zero k =
    let e : 0 + k ≡ k = omega arith in
    let f : i ≡ i + 0 = omega arith in
    ap (λ (x : ℕ). window b n i x) e ∙ ap (λ (x : ℕ). window b n x k) f
window-append b n i (suc j) k =
    let e : suc j + k ≡ suc (j + k) = omega arith in
    let f : suc i + j ≡ i + suc j = omega arith in
    ap (λ (x : ℕ). window b n i x) e
    ∙ ap (λ (l : List ℕ). get_or b (i % n) 0 ∷ l)
    (window-append b n (suc i) j k ∙ ap (λ (x : ℕ). window b n (suc i) j ++ window b n x k) f)

pub window-at : (b : List ℕ) (n i k j : ℕ) → j < k → get_or (window b n i k) j 0 ≡ get_or b ((i + j) % n) 0
unfolding window
window-at b n i zero j h = absurd (omega arith)
window-at b n i (suc k) zero h = ap (λ (x : ℕ). get_or b (x % n) 0) (omega arith)
window-at b n i (suc k) (suc j) h = window-at b n (suc i) k j (omega arith) ∙ ap (λ (x : ℕ). get_or b (x % n) 0) (omega arith)

-- a store elsewhere
pub window-set :
    (b : List ℕ) (n i k p v : ℕ) → ((t : ℕ) → i ≤ t → t < i + k → t % n ≢ p)
    → window (set b p v) n i k ≡ window b n i k
unfolding window
window-set b n i zero p v h = refl
window-set b n i (suc k) p v h =
    λ t. get_or-set_other b p (i % n) v 0 (h i (omega arith) (omega arith)) t
    ∷ window-set b n (suc i) k p v (λ u x y. h u (omega arith) (omega arith)) t

pub window_mod : (b : List ℕ) (n i j k : ℕ) → i % n ≡ j % n → window b n i k ≡ window b n j k
unfolding window
window_mod b n i j zero e = refl
window_mod b n i j (suc k) e =
    λ t. get_or b (e t) 0 ∷ window_mod b n (suc i) (suc j) k (suc-mod i n ∙ ap (λ (x : ℕ). suc x % n) e ∙ sym (suc-mod j n)) t

-- ---- dwords stored one after another from place i on

pub stored_snoc :
    (b : List ℕ) (n i : ℕ) (xs : List ℕ) (x : ℕ)
    → stored b n i (xs ++ (x ∷ [])) ≡ set (stored b n i xs) ((i + length xs) % n) x
unfolding stored
stored_snoc b n i [] x = ap (λ (k : ℕ). set b (k % n) x) (omega arith)
stored_snoc b n i (y ∷ ys) x =
    stored_snoc (set b (i % n) y) n (suc i) ys x ∙ ap (λ (k : ℕ). set (stored (set b (i % n) y) n (suc i) ys) (k % n) x) (omega arith)

-- what is stored goes by the place's remainder
pub stored_mod : (b : List ℕ) (n i j : ℕ) (xs : List ℕ) → i % n ≡ j % n → stored b n i xs ≡ stored b n j xs
unfolding stored
stored_mod b n i j [] e = refl
stored_mod b n i j (x ∷ xs) e =
    rw e (stored_mod (set b (j % n) x) n (suc i) (suc j) xs (suc-mod i n ∙ ap (λ k. suc k % n) e ∙ sym (suc-mod j n)))

pub stored_other :
    (b : List ℕ) (n i : ℕ) (xs : List ℕ) (j : ℕ) → ((t : ℕ) → i ≤ t → t < i + length xs → j ≢ t % n)
    → get_or (stored b n i xs) j 0 ≡ get_or b j 0
unfolding stored
stored_other b n i [] j h = refl
stored_other b n i (x ∷ xs) j h =
    stored_other (set b (i % n) x) n (suc i) xs j (λ t u w. h t (omega arith) (omega arith))
    ∙ get_or-set_other b (i % n) j x 0 (h i (omega arith) (omega arith))

pub stored-length : (b : List ℕ) (n i : ℕ) (xs : List ℕ) → length (stored b n i xs) ≡ length b
unfolding stored
stored-length b n i [] = refl
stored-length b n i (x ∷ xs) = stored-length (set b (i % n) x) n (suc i) xs ∙ length-set b (i % n) x

-- one dword more of a list
pub stored-take :
    (b : List ℕ) (n i : ℕ) (m : List ℕ) (k : ℕ) → k < length m
    → set (stored b n i (take k m)) ((i + k) % n) (get_or m k 0) ≡ stored b n i (take (suc k) m)
stored-take b n i m k h =
    let e : length (take k m) ≡ k = length-take-le k m (omega arith) in
    ap (λ (x : ℕ). set (stored b n i (take k m)) ((i + x) % n) (get_or m k 0)) (sym e) ∙ sym (stored_snoc b n i (take k m) (get_or m k 0))
    ∙ ap (stored b n i) (sym (take-suc m k 0 h))
