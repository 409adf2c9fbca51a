-- Slices: what a loop that fills one from the front has after a turn, and parts of one. They stand here, where every crate that
-- lends parts of a slice can name them. Assumes nothing.
use Prim.Native.Nat.{ℕ, ◌+◌, ◌-◌, ◌≤◌, ◌<◌}
use mathlib.Core.Path.{◌≡◌}
use mathlib.Core.List.{List, ◌++◌, append_assoc}
use native.Mathlib.Numerals.{add-one}
use native.Mathlib.Omega.{arith}
use lib.ListN.{length, get_or, set, take, drop, take-append-drop, length-drop, length-take}
use lib.Seq.{take_all, take-suc, drop-cons, drop-drop, drop-append-le, append_snoc, set_at, length-take-le}
use borrow.Rule.Slice.PartMut.{mid_of, put_mid}

-- a turn of the loop that copies src to the front of dst
pub copied_more :
    (dst src : List ℕ) (i : ℕ) → i < length src → i < length dst
    → set (take i src ++ drop i dst) i (get_or src i 0) ≡ take (i + 1) src ++ drop (i + 1) dst
copied_more dst src i h k =
    rw (add-one, drop-cons dst i 0, take-suc src i 0, append_snoc)
    (set_at (take i src) _ _ _ _ (length-take-le i src (omega arith)))

-- the part from place k to the end
pub to_end : (k : ℕ) (xs : List ℕ) → take (length xs - k) (drop k xs) ≡ drop k xs
to_end k xs = take_all (length xs - k) (drop k xs) (simp length-drop (omega arith))

-- xs copied to the front of the part of k elements from place a on
pub put_front :
    (a k : ℕ) (b xs : List ℕ) → length xs ≤ k → a + k ≤ length b
    → put_mid a k b (xs ++ drop (length xs) (mid_of a k b)) ≡ take a b ++ (xs ++ drop (a + length xs) b)
put_front a k b xs h l =
    let m : length xs ≤ length (take k (drop a b)) = simp (length-take, length-drop) (omega arith) in
    rw (append_assoc, ← drop-append-le (length xs) (take k (drop a b)) (drop k (drop a b)), take-append-drop, drop-drop)
