-- Dwords of a buffer: what a loop over them has after a turn, and what goes around the end as what is straight. Assumes
-- nothing.
use Prim.Native.Nat.{ℕ, zero, suc, ◌+◌, ◌-◌, ◌%◌, ◌≤◌, ◌<◌}
use mathlib.Core.Path.{◌≡◌, refl, sym, ap, ◌∙◌}
use mathlib.Core.Bool.{true, false, ◌&&◌}
use mathlib.Core.List.{List, [], ◌∷◌, ◌++◌, append_assoc}
use native.Mathlib.Nat.{sub-zero, zero-sub, suc-sub-suc, zero-mod, mod_self, mod-eq_of_lt}
use native.Mathlib.Omega.{arith}
use lib.ListN.{length, get_or, set, take, drop, replicate, take-append-drop}
use lib.Seq.{drop-cons, length-take-le, sets, sets-eq}
use borrow.Author.Tests.{le-leb, lt-leb, le-ltb, lt-ltb}
use borrow.Rule.Slice.PartMut.{put_mid}
use lib.Dec.{leb, ltb}
use Rattle.message.proofs.Slices.{to_end}
use Rattle.message.proofs.Tests.{and_false}
use Rattle.runs.specs.Buffer.{window, stored, stored_at, filled_from, laid, laid_from}
use Rattle.runs.proofs.Ring.{window-append, window_mod, stored_mod}

-- zeros less some of them are zeros
pub drop-replicate : (k n x : ℕ) → drop k (replicate n x) ≡ replicate (n - k) x
drop-replicate zero n x = rw sub-zero
drop-replicate (suc k) zero x = rw zero-sub
drop-replicate (suc k) (suc n) x = rw suc-sub-suc (drop-replicate k n x)

-- the place past the end is the front
around : (n i : ℕ) → i ≡ n → i % n ≡ 0 % n
around n i e = rw (e, mod_self, zero-mod)

-- dwords that end within the buffer need no remainders
stored_sets : (b : List ℕ) (n i : ℕ) (xs : List ℕ) → i + length xs ≤ n → stored b n i xs ≡ sets b i xs
unfolding stored
stored_sets b n i [] h = refl
stored_sets b n i (x ∷ xs) h =
    let e : i % n ≡ i = mod-eq_of_lt (omega arith) in
    rw e (stored_sets (set b i x) n (suc i) xs (omega arith))

-- dwords that end within the buffer are stored straight
pub stored_straight :
    (b : List ℕ) (n i : ℕ) (xs : List ℕ) → i + length xs ≤ n → n ≤ length b
    → stored b n i xs ≡ take i b ++ (xs ++ drop (i + length xs) b)
stored_straight b n i xs h l = stored_sets b n i xs h ∙ sets-eq xs b i (omega arith) ∙ append_assoc (take i b) xs _

-- dwords in two parts
stored-append : (b : List ℕ) (n i : ℕ) (xs ys : List ℕ) → stored b n i (xs ++ ys) ≡ stored (stored b n i xs) n (i + length xs) ys
unfolding stored
stored-append b n i [] ys = ap (λ k. stored b n k ys) (omega arith)
stored-append b n i (x ∷ xs) ys =
    stored-append (set b (i % n) x) n (suc i) xs ys ∙ ap (λ k. stored (stored (set b (i % n) x) n (suc i) xs) n k ys) (omega arith)

-- more than the k dwords up to the end go on at the front
pub stored-around :
    (b : List ℕ) (n i k : ℕ) (xs : List ℕ) → i + k ≡ n → k ≤ length xs
    → stored b n i xs ≡ stored (stored b n i (take k xs)) n 0 (drop k xs)
stored-around b n i k xs e h =
    let l : length (take k xs) ≡ k = length-take-le k xs h in
    ap (stored b n i) (sym (take-append-drop k xs)) ∙ stored-append b n i (take k xs) (drop k xs)
    ∙ stored_mod _ n _ 0 (drop k xs) (around n _ (omega arith))

-- the buffer after one dword
pub stored_single : (b : List ℕ) (i h : ℕ) → i < length b → set b i h ≡ stored b (length b) i (h ∷ [])
unfolding stored
stored_single b i h l = let e : i % length b ≡ i = mod-eq_of_lt l in rw e

-- a message of which the first two dwords are taken by themselves
pub two_and_rest : (m : List ℕ) → 2 ≤ length m → get_or m 0 0 ∷ get_or m 1 0 ∷ take (length m - 2) (drop 2 m) ≡ m
two_and_rest [] h = absurd (omega arith)
two_and_rest (x ∷ []) h = absurd (omega arith)
two_and_rest (x ∷ y ∷ r) h = ap (λ (l : List ℕ). x ∷ y ∷ l) (to_end 2 (x ∷ y ∷ r))

-- whether k dwords from place at on fit a buffer of n: where they do, and where they do not
module _ (n at k : ℕ) where
  fits-there : at < n → k ≤ n → (ltb at n && leb k n) ≡ true
  fits-there h l = rw (lt-ltb at n h, le-leb k n l)

  fits_outside : n ≤ at → (ltb at n && leb k n) ≡ false
  fits_outside h = rw (le-ltb at n h)

  fits_long : n < k → (ltb at n && leb k n) ≡ false
  fits_long h = rw (lt-leb k n h) (and_false (ltb at n))

module _ (b : List ℕ) (at : ℕ) (xs : List ℕ) where
  -- what is stored ..
  pub stored_there : at < length b → length xs ≤ length b → stored_at b at xs ≡ stored b (length b) at xs
  unfolding stored_at
  stored_there h l = rw (fits-there (length b) at (length xs) h l)

  pub stored_outside : length b ≤ at → stored_at b at xs ≡ b
  unfolding stored_at
  stored_outside h = rw (fits_outside (length b) at (length xs) h)

  pub stored_long : length b < length xs → stored_at b at xs ≡ b
  unfolding stored_at
  stored_long h = rw (fits_long (length b) at (length xs) h)

  -- .. and what is read in the place of xs
  pub filled_there : at < length b → length xs ≤ length b → filled_from b at xs ≡ window b (length b) at (length xs)
  unfolding filled_from
  filled_there h l = rw (fits-there (length b) at (length xs) h l)

  pub filled_outside : length b ≤ at → filled_from b at xs ≡ xs
  unfolding filled_from
  filled_outside h = rw (fits_outside (length b) at (length xs) h)

  pub filled_long : length b < length xs → filled_from b at xs ≡ xs
  unfolding filled_from
  filled_long h = rw (fits_long (length b) at (length xs) h)

-- dwords that end within the buffer are read straight
pub window_straight : (b : List ℕ) (n i k : ℕ) → i + k ≤ n → n ≤ length b → window b n i k ≡ take k (drop i b)
unfolding window
window_straight b n i zero h l = refl
window_straight b n i (suc k) h l =
    let e : i % n ≡ i = mod-eq_of_lt (omega arith) in
    let f : i < length b = omega arith in
    rw (drop-cons b i 0, e, window_straight b n (suc i) k (omega arith) l)

-- more than the k dwords up to the end go on at the front
pub window-around : (b : List ℕ) (n i k m : ℕ) → i + k ≡ n → window b n i (k + m) ≡ window b n i k ++ window b n 0 m
window-around b n i k m e = rw (window-append, window_mod b n (i + k) 0 m (around n (i + k) e))

-- a part from place 2 on, behind two dwords that are stored by themselves
pub two_then :
    (out : List ℕ) (h s len : ℕ) (w : List ℕ) → 2 ≤ len → len ≤ length out
    → put_mid 2 (len - 2) (set (set out 0 h) 1 s) w ≡ h ∷ s ∷ (w ++ drop len out)
two_then [] h s len w l k = absurd (omega arith)
two_then (x ∷ []) h s len w l k = absurd (omega arith)
two_then (x ∷ y ∷ o) h s zero w l k = absurd (omega arith)
two_then (x ∷ y ∷ o) h s (suc zero) w l k = absurd (omega arith)
two_then (x ∷ y ∷ o) h s (suc (suc len)) w l k = let e : suc (suc len) - 2 ≡ len = omega arith in rw e

-- dwords for which there is room are laid
pub laid-there : (xs o : List ℕ) → length xs ≤ length o → laid xs o ≡ xs ++ drop (length xs) o
unfolding laid
laid-there xs o h = rw (le-leb (length xs) (length o) h)

-- and those for which there is no room are not
pub laid_none : (dst xs : List ℕ) → length dst < length xs → dst ≡ laid xs dst
unfolding laid
laid_none dst xs h = rw (lt-leb _ _ h)

-- a message that is there, and for which there is room, is laid
pub laid-there-from :
    (b : List ℕ) (own h s len : ℕ) (out : List ℕ) → own < length b → 2 ≤ len → len ≤ length b → length b ≤ 16384
    → len ≤ length out
    → laid_from b own h s len out ≡ h ∷ s ∷ window b (length b) (own + 2) (len - 2) ++ drop len out
unfolding laid_from
laid-there-from b own h s len out x y z v w =
    rw (lt-ltb own (length b) x, le-leb 2 len y, le-leb len (length b) z, le-leb (length b) 16384 v, le-leb len (length out) w)
