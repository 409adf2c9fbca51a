-- Laws of the plain map: what a put leaves, and how many fences are open and how much is set aside before and after it.
-- Assumes nothing.
use Prim.Native.Nat.{ℕ, zero, suc, ◌+◌, ◌≤◌, ◌<◌}
use mathlib.Core.Path.{◌≡◌, refl, sym, ◌∙◌}
use mathlib.Core.Bool.{true, cond}
use mathlib.Core.Option.{Option}
use native.Mathlib.Omega.{arith}
use borrow.Author.Tests.{eqb-true, eqb-false, eq-eqb, ne_eqb}
use lib.Dec.{eqb}
use Rattle.message.proofs.Tests.{cases}
use Rattle.matching.specs.Map.{Entry, Map, empty, there, is_open_in, put, open_below, room_of, aside_below}

-- equality of numbers, tested the other way round
pub eqb_sym : (a b : ℕ) → eqb a b ≡ eqb b a
eqb_sym a b =
    cases (eqb a b)
    (λ t. t ∙ sym (eq-eqb b a (sym (eqb-true a b t))))
    (λ t. t ∙ sym (ne_eqb b a (λ e. eqb-false a b t (sym e))))

pub put_same : (m : Map) (f : ℕ) (e : Option Entry) → put m f e f ≡ e
unfolding put
put_same m f e = rw (eq-eqb f f refl)

pub put_other : (m : Map) (f : ℕ) (e : Option Entry) (g : ℕ) → (g ≡ f → ⊥) → put m f e g ≡ m g
unfolding put
put_other m f e g n = rw (ne_eqb g f n)

-- ---- how many are open

pub below_empty : (n : ℕ) → open_below n empty ≡ 0
unfolding open_below is_open_in
below_empty zero = refl
below_empty (suc n) = rw (below_empty n)

-- where every fence below n is open, n are
pub below_all : (n : ℕ) (m : Map) → ((f : ℕ) → f < n → is_open_in m f ≡ true) → open_below n m ≡ n
unfolding open_below
below_all zero m h = refl
below_all (suc n) m h =
    let i : open_below n m ≡ n = below_all n m (λ f l. h f (omega arith)) in
    rw (h n (omega arith)) (omega arith)

-- a put at or past n changes nothing below n
below_past : (n : ℕ) (m : Map) (f : ℕ) (e : Option Entry) → n ≤ f → open_below n (put m f e) ≡ open_below n m
unfolding open_below is_open_in
below_past zero m f e h = refl
below_past (suc n) m f e h =
    rw (put_other m f e n (λ q. omega arith), below_past n m f e (omega arith))

-- and one below n changes the count by what the fence had and has
pub below_put :
    (n : ℕ) (m : Map) (f : ℕ) (e : Option Entry) → f < n
    → open_below n (put m f e) + cond (is_open_in m f) 1 0 ≡ open_below n m + cond (there e) 1 0
unfolding open_below is_open_in
below_put zero m f e h = absurd (omega arith)
below_put (suc n) m f e h =
    cases (eqb n f)
    (λ t.
    let q : n ≡ f = eqb-true n f t in
    rw (q, put_same m f e, below_past f m f e (omega arith)) (omega arith))
    (λ t.
    let q : n ≡ f → ⊥ = eqb-false n f t in
    let i = below_put n m f e (omega arith) in
    rw (put_other m f e n q) (omega arith))

-- ---- how much is set aside

pub aside-empty : (n : ℕ) → aside_below n empty ≡ 0
unfolding aside_below
aside-empty zero = refl
aside-empty (suc n) = rw (aside-empty n)

aside-past : (n : ℕ) (m : Map) (f : ℕ) (e : Option Entry) → n ≤ f → aside_below n (put m f e) ≡ aside_below n m
unfolding aside_below
aside-past zero m f e h = refl
aside-past (suc n) m f e h = rw (put_other m f e n (λ q. omega arith), aside-past n m f e (omega arith))

pub aside-put :
    (n : ℕ) (m : Map) (f : ℕ) (e : Option Entry) → f < n
    → aside_below n (put m f e) + room_of (m f) ≡ aside_below n m + room_of e
unfolding aside_below
aside-put zero m f e h = absurd (omega arith)
aside-put (suc n) m f e h =
    cases (eqb n f)
    (λ t.
    let q : n ≡ f = eqb-true n f t in
    rw (q, put_same m f e, aside-past f m f e (omega arith)) (omega arith))
    (λ t.
    let q : n ≡ f → ⊥ = eqb-false n f t in
    let i = aside-put n m f e (omega arith) in
    rw (put_other m f e n q) (omega arith))
