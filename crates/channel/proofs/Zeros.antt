-- A copy of zeros: what the loop that joins its dwords has after a turn. Assumes nothing.
use Prim.Native.Nat.{ℕ, zero, suc, ◌+◌, ◌-◌, ◌*◌, ◌≤◌, ◌<◌, ◌^◌}
use mathlib.Core.Path.{◌≡◌, refl, sym, ap, ◌∙◌}
use mathlib.Core.Bool.{Bool, ◌&&◌, and_assoc, and-true}
use mathlib.Core.List.{List, [], ◌∷◌, ◌++◌}
use native.Mathlib.Nat.{sub-zero}
use native.Mathlib.Numerals.{add-one}
use native.Mathlib.Omega.{arith}
use lib.Bits.{bit_or, or_add_and, and_le_r, or_zero_l}
use lib.Dec.{eqb}
use lib.ListN.{length, get_or, take, drop, drop_of_length-le}
use lib.Seq.{drop-cons, drop-drop, take-suc}
use borrow.Author.Tests.{ne_eqb}
use Rattle.message.proofs.Slices.{to_end}
use Rattle.channel.specs.State.{all_zero}

-- two dwords joined by `|` are 0 just where both are
join_zero : (a b : ℕ) → eqb (bit_or a b) 0 ≡ (eqb a 0 && eqb b 0)
join_zero zero b = rw or_zero_l
join_zero (suc a) b =
    rw (ne_eqb (suc a) 0 (λ e. omega arith))
    (ne_eqb (bit_or (suc a) b) 0 (λ e. omega (arith, or_add_and (suc a) b, and_le_r (suc a) b)))

-- a turn of the loop that joins the dwords of s, of which j is the join so far
pub zero_more :
    (j : ℕ) (s : List ℕ) (i : ℕ) → i < length s
    → (eqb (bit_or j (get_or s i 0)) 0 && all_zero (drop (i + 1) s)) ≡ (eqb j 0 && all_zero (drop i s))
unfolding all_zero
zero_more j s i h =
    rw (add-one, drop-cons s i 0, join_zero) (and_assoc (eqb j 0) (eqb (get_or s i 0) 0) (all_zero (drop (suc i) s)))

-- after the last turn the join alone tells
pub zero_end : (j : ℕ) (s : List ℕ) (i : ℕ) → length s ≤ i → (eqb j 0 && all_zero (drop i s)) ≡ eqb j 0
unfolding all_zero
zero_end j s i h = rw (drop_of_length-le s h) (and-true _)

-- the dwords of two parts
pub zero_both : (xs ys : List ℕ) → all_zero (xs ++ ys) ≡ (all_zero xs && all_zero ys)
unfolding all_zero
zero_both [] ys = refl
zero_both (x ∷ xs) ys = rw (zero_both xs ys) (sym (and_assoc (eqb x 0) (all_zero xs) (all_zero ys)))

pub zero_split : (k : ℕ) (s : List ℕ) → (all_zero (take k s) && all_zero (drop k s)) ≡ all_zero s
unfolding all_zero
zero_split zero s = refl
zero_split (suc k) [] = refl
zero_split (suc k) (x ∷ s) = and_assoc (eqb x 0) (all_zero (take k s)) (all_zero (drop k s)) ∙ rw (zero_split k s)

-- two dwords as one number are 0 just where both are
pair_zero : (x y : ℕ) → eqb (x + y * 2 ^ 32) 0 ≡ (eqb x 0 && eqb y 0)
pair_zero zero zero = refl
pair_zero zero (suc y) = rw (ne_eqb (suc y) 0 (λ e. omega arith)) (ne_eqb (0 + suc y * 2 ^ 32) 0 (λ e. omega arith))
pair_zero (suc x) y = rw (ne_eqb (suc x) 0 (λ e. omega arith)) (ne_eqb (suc x + y * 2 ^ 32) 0 (λ e. omega arith))

-- one dword more
zero_suc : (s : List ℕ) (i : ℕ) → i < length s → all_zero (take (suc i) s) ≡ (all_zero (take i s) && eqb (get_or s i 0) 0)
unfolding all_zero
zero_suc s i h =
    ap all_zero (take-suc s i 0 h) ∙ zero_both (take i s) (get_or s i 0 ∷ [])
    ∙ ap (λ (t : Bool). all_zero (take i s) && t) (and-true (eqb (get_or s i 0) 0))

-- a turn of the loop that joins the dwords of s two by two, of which j is the join so far
pub pair_more :
    (j : ℕ) (s : List ℕ) (k : ℕ) → 2 * k + 1 < length s → eqb j 0 ≡ all_zero (take (2 * k) s)
    → eqb (bit_or j (get_or s (2 * k) 0 + get_or s (2 * k + 1) 0 * 2 ^ 32)) 0 ≡ all_zero (take (2 * (k + 1)) s)
pair_more j s k h e =
    let x : ℕ = get_or s (2 * k) 0 in
    let y : ℕ = get_or s (2 * k + 1) 0 in
    let f : suc (2 * k + 1) ≡ 2 * (k + 1) = omega arith in
    let g : suc (2 * k) ≡ 2 * k + 1 = omega arith in
    let one : all_zero (take (2 * k + 1) s) ≡ (all_zero (take (2 * k) s) && eqb x 0) =
    ap (λ (i : ℕ). all_zero (take i s)) (sym g) ∙ zero_suc s (2 * k) (omega arith) in
    let two : all_zero (take (2 * (k + 1)) s) ≡ (all_zero (take (2 * k + 1) s) && eqb y 0) =
    ap (λ (i : ℕ). all_zero (take i s)) (sym f) ∙ zero_suc s (2 * k + 1) h in
    join_zero j (x + y * 2 ^ 32) ∙ ap (λ (t : Bool). eqb j 0 && t) (pair_zero x y)
    ∙ ap (λ (t : Bool). t && (eqb x 0 && eqb y 0)) e
    ∙ sym (and_assoc (all_zero (take (2 * k) s)) (eqb x 0) (eqb y 0)) ∙ ap (λ (t : Bool). t && eqb y 0) (sym one) ∙ sym two

-- four joins are 0 together just where each is
pub joins_zero : (a b c d : ℕ) → eqb (bit_or (bit_or (bit_or a b) c) d) 0 ≡ (eqb a 0 && eqb b 0 && eqb c 0 && eqb d 0)
joins_zero a b c d = rw (join_zero (bit_or (bit_or a b) c) d, join_zero (bit_or a b) c, join_zero a b)

-- two halves of a list, each of them in two, and what is left
pub zero_parts :
    (h q : ℕ) (s : List ℕ)
    → (all_zero (take q (take h s)) && all_zero (drop q (take h s))
    && all_zero (take q (take h (drop h s))) && all_zero (drop q (take h (drop h s)))
    && all_zero (drop h (drop h s)))
    ≡ all_zero s
zero_parts h q s =
    let f : List ℕ = take h s in
    let g : List ℕ = take h (drop h s) in
    let r : Bool = all_zero (drop h (drop h s)) in
    ap (λ (t : Bool). t && all_zero (take q g) && all_zero (drop q g) && r) (zero_split q f)
    ∙ ap (λ (t : Bool). t && r)
    (and_assoc (all_zero f) (all_zero (take q g)) (all_zero (drop q g)) ∙ ap (λ (t : Bool). all_zero f && t) (zero_split q g))
    ∙ and_assoc (all_zero f) (all_zero g) r ∙ ap (λ (t : Bool). all_zero f && t) (zero_split h (drop h s)) ∙ zero_split h s

-- as slices have them
pub zero_slices :
    (m : ℕ) (s : List ℕ)
    → let f = take (4 * m - 0) s in
    let g = take (2 * (4 * m) - 4 * m) (drop (4 * m) s) in
    (all_zero (take (2 * m - 0) f) && all_zero (take (length f - 2 * m) (drop (2 * m) f))
    && all_zero (take (2 * m - 0) g) && all_zero (take (length g - 2 * m) (drop (2 * m) g))
    && all_zero (take (length s - 2 * (4 * m)) (drop (2 * (4 * m)) s)))
    ≡ all_zero s
zero_slices m s =
    let e : 2 * (4 * m) - 4 * m ≡ 4 * m = omega arith in
    let d : 4 * m + 4 * m ≡ 2 * (4 * m) = omega arith in
    let twice : drop (4 * m) (drop (4 * m) s) ≡ drop (2 * (4 * m)) s =
    drop-drop (4 * m) (4 * m) s ∙ ap (λ (k : ℕ). drop k s) d in
    rw (to_end, to_end, to_end, e, sub-zero, sub-zero, ← twice) (zero_parts (4 * m) (2 * m) s)
