-- What is wrong first in a message, test by test. Assumes nothing.
use Prim.Native.Nat.{ℕ, ◌+◌, ◌≤◌, ◌<◌}
use mathlib.Core.Path.{◌≡◌}
use mathlib.Core.Bool.{true, false}
use lib.Dec.{leb}
use borrow.Author.Tests.{lt-ltb, le-ltb, le-leb, lt-leb, eq-eqb, ne_eqb, leb-true}
use Rattle.message.proofs.Tests.{and_false, and_l, and_r}
use Rattle.message.specs.Header.{total_length}
use Rattle.record.specs.Faults.{missing, bad_direction, bad_length, bad_header}
use Rattle.record.specs.Runs.{is_length, judged_by, wrong, whole}

-- what is no length is below 1 or above 256
pub too_long_length : (l : ℕ) → 256 < l → is_length l ≡ false
unfolding is_length
too_long_length l h = rw (lt-leb l 256 h) (and_false (leb 1 l))

pub length_bounds : (l : ℕ) → is_length l ≡ true → (1 ≤ l) × (l ≤ 256)
unfolding is_length
length_bounds l y = (leb-true 1 l (and_l (leb 1 l) (leb l 256) y), leb-true l 256 (and_r (leb 1 l) (leb l 256) y))

module _ (count d l h : ℕ) where
  pub by_direction : 1 < d → judged_by count d l h ≡ wrong bad_direction 0
  unfolding judged_by
  by_direction x = rw (lt-ltb 1 d x)

  module _ (x : d ≤ 1) where
    pub by_no_length : count ≤ 1 → judged_by count d l h ≡ wrong missing count
    unfolding judged_by
    by_no_length y = rw (le-ltb 1 d x, le-leb count 1 y)

    module _ (y : 1 < count) where
      pub by_length : is_length l ≡ false → judged_by count d l h ≡ wrong bad_length 1
      unfolding judged_by
      by_length z = rw (le-ltb 1 d x, lt-leb count 1 y, z)

      module _ (z : is_length l ≡ true) where
        pub by_no_header : count ≤ 2 → judged_by count d l h ≡ wrong missing count
        unfolding judged_by
        by_no_header u = rw (le-ltb 1 d x, lt-leb count 1 y, z, le-leb count 2 u)

        module _ (u : 2 < count) where
          pub by_header : (total_length h ≡ l → ⊥) → judged_by count d l h ≡ wrong bad_header 2
          unfolding judged_by
          by_header v = rw (le-ltb 1 d x, lt-leb count 1 y, z, lt-leb count 2 u, ne_eqb (total_length h) l v)

          module _ (v : total_length h ≡ l) where
            pub by_end : count < 2 + l → judged_by count d l h ≡ wrong missing count
            unfolding judged_by
            by_end w =
                rw
                (le-ltb 1 d x, lt-leb count 1 y, z, lt-leb count 2 u, eq-eqb (total_length h) l v, lt-ltb count (2 + l) w)

            pub by_whole : 2 + l ≤ count → judged_by count d l h ≡ whole (2 + l)
            unfolding judged_by
            by_whole w =
                rw
                (le-ltb 1 d x, lt-leb count 1 y, z, lt-leb count 2 u, eq-eqb (total_length h) l v, le-ltb count (2 + l) w)
