-- Dwords in their runs: what one after another around the end of the buffer comes to. Assumes nothing.
use Prim.Native.Nat.{ℕ, suc, ◌+◌, ◌-◌, ◌%◌, ◌≤◌, ◌<◌, min}
use mathlib.Core.Path.{◌≡◌, refl, sym, ap, ◌∙◌}
use mathlib.Core.List.{List, [], ◌∷◌, ◌++◌, append_assoc, append-nil}
use native.Mathlib.Decide.{dec_lt}
use native.Mathlib.Nat.{add-mod_left, min-eq_left, min-eq_right, mod-eq_of_lt, mod-lt, mod-mod, sub-zero, zero-add}
use native.Mathlib.Numerals.{add-one}
use native.Mathlib.Omega.{arith}
use lib.ListN.{length, set, take, drop, drop_of_length-le, length-append, length-drop, length-set, length-take}
use lib.Seq.{take_all, take_at, take-suc-set, drop-drop, drop-set-lt, length-take-le}
use borrow.Rule.Slice.PartMut.{mid_of, put_mid}
use Rattle.runs.specs.Buffer.{window, stored, stored_at, laid}
use Rattle.runs.specs.TwoRuns.{first_count, second_count, run_of, with_run, stored_runs, read_runs}
use Rattle.runs.proofs.Ring.{window_mod, stored-length}
use Rattle.message.proofs.Slices.{to_end}
use Rattle.runs.proofs.Straight.{laid-there, two_then, stored_straight, stored-around}
use Rattle.runs.proofs.Straight.{stored_single, stored_there, window_straight, window-around}

-- the first run has all the dwords, or goes to the end
module _ (n i k : ℕ) where
  first-all : k ≤ n - i → first_count n i k ≡ k
  unfolding first_count
  first-all h = min-eq_left h

  first-to-end : n - i ≤ k → first_count n i k ≡ n - i
  unfolding first_count
  first-to-end h = min-eq_right h

  -- dword j of the first run
  pub first-places : (j : ℕ) → i < n → j < first_count n i k → (i + j) % n ≡ i + j
  unfolding first_count
  first-places j l h = mod-eq_of_lt (omega arith)

  -- dword j of the second
  pub second-places : (j : ℕ) → i < n → k ≤ n → j < second_count n i k → (i + (first_count n i k + j)) % n ≡ j
  unfolding first_count second_count
  second-places j l f h =
      let e : i + (min k (n - i) + j) ≡ n + j = omega arith in
      rw (e, add-mod_left) (mod-eq_of_lt (omega arith))

  pub one : i + k ≤ n → second_count n i k ≡ 0
  unfolding first_count second_count
  one h = omega arith

  pub two : i < n → k ≤ n → n < i + k → i + first_count n i k ≡ n
  unfolding first_count
  two l f h = omega arith

-- of two dwords or more, where two places are left before the end: what it has behind two of them, and those
behind-two : (n i k : ℕ) → i + 2 ≤ n → first_count n i (2 + k) ≡ 2 + first_count n (i + 2) k
unfolding first_count
behind-two n i k h = omega arith

-- dwords in k places of a buffer, as many as they are
pub put-run : (b : List ℕ) (i k : ℕ) (xs : List ℕ) → length xs ≡ k → put_mid i k b xs ≡ with_run b i xs
unfolding with_run
put-run b i k xs l = rw (drop-drop, ← l)

-- as many dwords as are read
length_run : (b : List ℕ) (i k : ℕ) → i + k ≤ length b → length (run_of b i k) ≡ k
unfolding run_of
length_run b i k h = length-take-le k (drop i b) (simp length-drop (omega arith))

-- a part of a buffer
pub part-run : (b : List ℕ) (i k l : ℕ) → k ≡ l → take k (drop i b) ≡ run_of b i l
unfolding run_of
part-run b i k l e = rw e

-- a run that ends within the buffer
stored-run : (b : List ℕ) (n i : ℕ) (xs : List ℕ) → i + length xs ≤ n → n ≤ length b → stored b n i xs ≡ with_run b i xs
unfolding with_run
stored-run b n i xs h l = stored_straight b n i xs h l

read_run : (b : List ℕ) (n i k : ℕ) → i + k ≤ n → n ≤ length b → window b n i k ≡ run_of b i k
unfolding run_of
read_run b n i k h l = window_straight b n i k h l

-- dwords of which the first f are the first run, and the others the second
in_runs :
    (b : List ℕ) (i : ℕ) (xs : List ℕ) (f : ℕ) → first_count (length b) i (length xs) ≡ f
    → stored_runs b i xs ≡ with_run (with_run b i (take f xs)) 0 (drop f xs)
unfolding stored_runs
in_runs b i xs f e = rw e

-- a second run of nothing
pub none_left : (b : List ℕ) → with_run b 0 [] ≡ b
unfolding with_run
none_left b = refl

-- dwords that are all in the first run
pub alone : (b : List ℕ) (i : ℕ) (xs : List ℕ) → length xs ≤ length b - i → with_run b i xs ≡ stored_runs b i xs
alone b i xs h =
    let a : take (length xs) xs ≡ xs = take_all (length xs) xs (omega arith) in
    let z : drop (length xs) xs ≡ [] = drop_of_length-le xs {i = length xs} (omega arith) in
    rw (in_runs b i xs (length xs) (first-all _ _ _ h), a, z, none_left)

pub stored_in_runs :
    (b : List ℕ) (i : ℕ) (xs : List ℕ) → i < length b → length xs ≤ length b
    → stored b (length b) i xs ≡ stored_runs b i xs
stored_in_runs b i xs l h = elim (dec_lt (length b - i) (length xs)) [ yes u ↦ around u | no u ↦ straight (omega arith) ]
  where
    straight : length xs ≤ length b - i → stored b (length b) i xs ≡ stored_runs b i xs
    straight u = stored-run b (length b) i xs (omega arith) (omega arith) ∙ alone b i xs u

    around : length b - i < length xs → stored b (length b) i xs ≡ stored_runs b i xs
    around u =
        let k = length b - i in
        let t : length (take k xs) ≡ k = length-take-le k xs (omega arith) in
        let d : length (drop k xs) ≡ length xs - k = length-drop k xs in
        let m = stored b (length b) i (take k xs) in
        let s : length m ≡ length b = stored-length b (length b) i (take k xs) in
        stored-around b (length b) i k xs (omega arith) (omega arith)
        ∙ stored-run m (length b) 0 (drop k xs) (omega arith) (omega arith)
        ∙ ap (λ (y : List ℕ). with_run y 0 (drop k xs)) (stored-run b (length b) i (take k xs) (omega arith) (omega arith))
        ∙ sym (in_runs b i xs k (first-to-end _ _ _ (omega arith)))

-- dwords that fit, in their runs, are those that are stored
pub stored-fit :
    (b : List ℕ) (i : ℕ) (xs : List ℕ) → i < length b → length xs ≤ length b → stored_runs b i xs ≡ stored_at b i xs
stored-fit b i xs l h = sym (stored_in_runs b i xs l h) ∙ sym (stored_there b i xs l h)

-- k dwords that are read, of which the first f are the first run
read_by : (b : List ℕ) (i k f : ℕ) → first_count (length b) i k ≡ f → read_runs b i k ≡ run_of b i f ++ run_of b 0 (k - f)
unfolding read_runs second_count
read_by b i k f e = rw e

none_read : (b : List ℕ) → run_of b 0 0 ≡ []
unfolding run_of
none_read b = refl

pub read_alone : (b : List ℕ) (i k : ℕ) → k ≤ length b - i → run_of b i k ≡ read_runs b i k
read_alone b i k h =
    let z : k - k ≡ 0 = omega arith in
    rw (read_by b i k k (first-all _ _ _ h), z, none_read, append-nil)

pub read_in_runs : (b : List ℕ) (i k : ℕ) → i < length b → k ≤ length b → window b (length b) i k ≡ read_runs b i k
read_in_runs b i k l h = elim (dec_lt (length b - i) k) [ yes u ↦ around u | no u ↦ straight (omega arith) ]
  where
    straight : k ≤ length b - i → window b (length b) i k ≡ read_runs b i k
    straight u = read_run b (length b) i k (omega arith) (omega arith) ∙ read_alone b i k u

    around : length b - i < k → window b (length b) i k ≡ read_runs b i k
    around u =
        let f = length b - i in
        let e : k ≡ f + (k - f) = omega arith in
        let x = read_run b (length b) i f (omega arith) (omega arith) in
        let y = read_run b (length b) 0 (k - f) (omega arith) (omega arith) in
        let z = read_by b i k f (first-to-end _ _ _ (omega arith)) in
        ap (window b (length b) i) e ∙ window-around b (length b) i f (k - f) (omega arith) ∙ rw (x, y, z)

-- a message of which the first two dwords are given by value: both open the first run
together :
    (b : List ℕ) (i h w : ℕ) (r : List ℕ) (f : ℕ) → first_count (length b) i (2 + length r) ≡ 2 + f
    → stored_runs b i (h ∷ w ∷ r) ≡ with_run (with_run b i (h ∷ w ∷ take f r)) 0 (drop f r)
together b i h w r f e =
    let s : 2 + length r ≡ length (h ∷ w ∷ r) = omega arith in
    let t : 2 + f ≡ suc (suc f) = omega arith in
    in_runs b i (h ∷ w ∷ r) (suc (suc f)) (ap (first_count (length b) i) (sym s) ∙ e ∙ t)

pub judged_together :
    (b : List ℕ) (i h w : ℕ) (r : List ℕ) → i + 2 ≤ length b
    → let f = first_count (length b) (i + 2) (length r) in
    stored_runs b i (h ∷ w ∷ r) ≡ with_run (with_run b i (h ∷ w ∷ take f r)) 0 (drop f r)
judged_together b i h w r l = together b i h w r _ (behind-two (length b) i (length r) l)

-- or one of them is all of it
pub judged-apart :
    (b : List ℕ) (i h w : ℕ) (r : List ℕ) → i + 1 ≡ length b
    → stored_runs b i (h ∷ w ∷ r) ≡ with_run (with_run b i (h ∷ [])) 0 (w ∷ r)
judged-apart b i h w r e =
    let o : length b - i ≡ 1 = omega arith in
    in_runs b i (h ∷ w ∷ r) 1 (first-to-end _ _ _ (omega arith) ∙ o)

-- the runs behind the first two dwords
pub others_read :
    (b : List ℕ) (i k : ℕ) → i < length b → k ≤ length b → window b (length b) (i + 2) k ≡ read_runs b ((i + 2) % length b) k
others_read b i k l h =
    let n = length b in
    let m : (i + 2) % n < n = mod-lt (i + 2) (omega arith) in
    window_mod b n (i + 2) ((i + 2) % n) k (sym (mod-mod (i + 2) n)) ∙ read_in_runs b ((i + 2) % n) k m h

-- a run that a dword by value opens
pub opened : (b : List ℕ) (i h : ℕ) (xs : List ℕ) → i < length b → with_run (set b i h) (i + 1) xs ≡ with_run b i (h ∷ xs)
unfolding with_run
opened b i h xs l =
    let e : i + 1 + length xs ≡ i + suc (length xs) = omega arith in
    let t : take (i + 1) (set b i h) ≡ take i b ++ (h ∷ []) = rw add-one (take-suc-set b i h l) in
    let d : drop (i + suc (length xs)) (set b i h) ≡ drop (i + suc (length xs)) b =
    drop-set-lt (i + suc (length xs)) b i h (omega arith) in
    rw (e, t, d) (append_assoc (take i b) (h ∷ []) _)

-- what `store_runs` stores: two dwords by value and the others, as many as lie before the end, and those that are left
-- from z on, which is the front
pub stored_together :
    (b r after m : List ℕ) (h w i : ℕ) {z : ℕ} {y : List ℕ}
    → let k = length b - i in
    after ≡ with_run m z y → z ≡ 0 → y ≡ take (length r - (k - 2)) (drop (k - 2) r)
    → m ≡ with_run b i (h ∷ w ∷ take (k - 2) r) → i < length b → k < 2 + length r → (k ≡ 1 → ⊥)
    → after ≡ stored_runs b i (h ∷ w ∷ r)
stored_together b r after m h w i u e x v l t o =
    let k = length b - i in
    let p : k ≡ 2 + (k - 2) = omega arith in
    rw (u, x, to_end (k - 2) r, v, e) (sym (together b i h w r (k - 2) (first-to-end _ _ _ (omega arith) ∙ p)))

-- or one by value before the end, and the other with the others from z on
pub stored-apart :
    (b r after : List ℕ) (h w i : ℕ) {z : ℕ} → after ≡ with_run (set b i h) z (w ∷ r) → z ≡ 0 → i + 1 ≡ length b
    → after ≡ stored_runs b i (h ∷ w ∷ r)
stored-apart b r after h w i u e f =
    let s : set b i h ≡ with_run b i (h ∷ []) =
    stored_single b i h (omega arith) ∙ stored-run b (length b) i (h ∷ []) (omega arith) (omega arith) in
    rw (u, e, s) (sym (judged-apart b i h w r f))

-- what `store_dwords` stores: as many dwords as lie before the end, and those that are left from z on, which is the
-- front
pub stored_split :
    (b xs after m : List ℕ) (i : ℕ) {z : ℕ} {y : List ℕ}
    → let k = length b - i in
    after ≡ with_run m z y → z ≡ 0 → y ≡ take (length xs - k) (drop k xs)
    → m ≡ with_run b i (take k xs) → k < length xs
    → after ≡ stored_runs b i xs
stored_split b xs after m i u e x v t =
    let k = length b - i in
    rw (u, x, to_end k xs, v, e) (sym (in_runs b i xs k (first-to-end _ _ _ (omega arith))))

-- what `load_runs` reads: k dwords to the front of dst, and from z on, which is the buffer's front, as many others as
-- it has places behind them
pub read_together :
    (dst b d x y : List ℕ) (i : ℕ) {z : ℕ}
    → let k = length b - i in
    y ≡ run_of b z (length (mid_of k (length d - k) d)) → z ≡ 0
    → x ≡ run_of b i (length (mid_of 0 (k - 0) dst)) → d ≡ put_mid 0 (k - 0) dst x → i < length b → k < length dst
    → put_mid k (length d - k) d y ≡ read_runs b i (length dst)
read_together dst b d x y i v e u p l h =
    let k = length b - i in
    let q : length (mid_of 0 (k - 0) dst) ≡ k = simp (sub-zero, length-take) (omega arith) in
    let a : length x ≡ k = ap length u ∙ length_run b i _ (omega arith) ∙ q in
    let s : length d ≡ length dst = ap length p ∙ simp (sub-zero, length-append, length-drop) (omega arith) in
    let c : length (mid_of k (length d - k) d) ≡ length dst - k = simp (length-take, length-drop) (omega arith) in
    let t : take k d ≡ x = ap (take k) p ∙ take_at _ _ k a in
    let w : drop (length d - k) (drop k d) ≡ [] = drop_of_length-le (drop k d) {i = length d - k} (simp length-drop (omega arith)) in
    rw (t, w, append-nil, u, v, e, q, c) (sym (read_by b i (length dst) k (first-to-end _ _ _ (omega arith))))

-- a run at the front is laid there
pub laid-run : (dst xs : List ℕ) → length xs ≤ length dst → with_run dst 0 xs ≡ laid xs dst
unfolding with_run
laid-run dst xs h = rw (laid-there xs dst h, zero-add)

-- what `lay_read` lays: two dwords by value, and behind them those that are read from two places further on
pub laid-behind :
    (out b : List ℕ) (h s len own r : ℕ) (w : List ℕ) → 2 ≤ len → len ≤ length out → len ≤ length b → own < length b
    → r ≡ (own + 2) % length b
    → w ≡ read_runs b r (length (mid_of 2 (len - 2) (set (set out 0 h) 1 s)))
    → put_mid 2 (len - 2) (set (set out 0 h) 1 s) w ≡ h ∷ s ∷ (window b (length b) (own + 2) (len - 2) ++ drop len out)
laid-behind out b h s len own r w l k f o e v =
    let n = length b in
    let x : length (mid_of 2 (len - 2) (set (set out 0 h) 1 s)) ≡ len - 2 = simp (length-take, length-drop, length-set) (omega arith) in
    let y : read_runs b r (len - 2) ≡ window b n (own + 2) (len - 2) = rw e (sym (others_read b own (len - 2) o (omega arith))) in
    rw (two_then out h s len w l k, v, x, y)
