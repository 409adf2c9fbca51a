-- Words with what is set aside beside each: all but that is the words' own, and what a walk over both comes to. Assumes
-- nothing.
use Prim.Native.Nat.{ℕ, zero, suc, ◌+◌, ◌≤◌, ◌<◌}
use mathlib.Core.Path.{◌≡◌, refl, sym, ap, ◌∙◌}
use mathlib.Core.Bool.{cond}
use mathlib.Core.List.{List, [], ◌∷◌}
use native.Mathlib.Nat.{not-suc-le-zero, le_of_suc-le-suc}
use native.Mathlib.Numerals.{add-one}
use native.Mathlib.Omega.{arith}
use lib.ListN.{length, get_or, take, drop, drop_of_length-le}
use lib.Seq.{drop-cons}
use Rattle.requests.specs.declared.record.Record.{Record}
use Rattle.requests.specs.Table.{free_record, is_open, has_fence, still_open, fence_twice, lowest_free, place_of, set_aside}
use Rattle.requests.specs.Words.{record_of, record_with, records, records_with}

pub with_length : (words rooms : List ℕ) → length (records_with words rooms) ≡ length words
unfolding records_with
with_length [] rooms = refl
with_length (w ∷ words) [] = ap suc (with_length words [])
with_length (w ∷ words) (r ∷ rooms) = ap suc (with_length words rooms)

-- ---- what is set aside has no part in what is open, where, and with which fence

same_open : (w r : ℕ) → is_open (record_with w r) ≡ is_open (record_of w)
unfolding is_open record_with
same_open w r = refl

same_fence : (f w r : ℕ) → has_fence f (record_with w r) ≡ has_fence f (record_of w)
unfolding has_fence is_open record_with
same_fence f w r = refl

own-fence : (w r : ℕ) → (record_with w r).fence ≡ (record_of w).fence
unfolding record_with
own-fence w r = refl

pub with_open : (f : ℕ) (words rooms : List ℕ) → still_open (records_with words rooms) f ≡ still_open (records words) f
unfolding records_with still_open
with_open f [] rooms = refl
with_open f (w ∷ words) [] = rw (with_open f words [])
with_open f (w ∷ words) (r ∷ rooms) = rw (same_fence f w r, with_open f words rooms)

pub with_twice : (words rooms : List ℕ) → fence_twice (records_with words rooms) ≡ fence_twice (records words)
unfolding records_with fence_twice
with_twice [] rooms = refl
with_twice (w ∷ words) [] = rw (with_open (record_of w).fence words [], with_twice words [])
with_twice (w ∷ words) (r ∷ rooms) =
    rw (same_open w r, own-fence w r, with_open (record_of w).fence words rooms, with_twice words rooms)

pub with_free : (words rooms : List ℕ) → lowest_free (records_with words rooms) ≡ lowest_free (records words)
unfolding records_with lowest_free
with_free [] rooms = refl
with_free (w ∷ words) [] = rw (with_free words [])
with_free (w ∷ words) (r ∷ rooms) = rw (same_open w r, with_free words rooms)

pub with_place : (f : ℕ) (words rooms : List ℕ) → place_of f (records_with words rooms) ≡ place_of f (records words)
unfolding records_with place_of
with_place f [] rooms = refl
with_place f (w ∷ words) [] = rw (with_place f words [])
with_place f (w ∷ words) (r ∷ rooms) = rw (same_fence f w r, with_place f words rooms)

-- ---- parts

take_none : (n : ℕ) → take {A = ℕ} n [] ≡ []
take_none zero = refl
take_none (suc n) = refl

pub with_take :
    (n : ℕ) (words rooms : List ℕ) → records_with (take n words) (take n rooms) ≡ take n (records_with words rooms)
unfolding records_with
with_take zero words rooms = refl
with_take (suc n) [] rooms = refl
with_take (suc n) (w ∷ words) [] =
    ap (λ (t : List Record). record_of w ∷ t) (ap (records_with (take n words)) (sym (take_none n)) ∙ with_take n words [])
with_take (suc n) (w ∷ words) (r ∷ rooms) = ap (λ (t : List Record). record_with w r ∷ t) (with_take n words rooms)

pub with_at :
    (words rooms : List ℕ) (i : ℕ) → i < length words
    → get_or (records_with words rooms) i free_record ≡ record_with (get_or words i 0) (get_or rooms i 0)
unfolding records_with
with_at [] rooms i l = absurd (not-suc-le-zero l)
with_at (w ∷ words) [] zero l = refl
with_at (w ∷ words) [] (suc i) l = with_at words [] i (le_of_suc-le-suc l)
with_at (w ∷ words) (r ∷ rooms) zero l = refl
with_at (w ∷ words) (r ∷ rooms) (suc i) l = with_at words rooms i (le_of_suc-le-suc l)

-- ---- a walk over both that has summed up to i

module _ (words rooms : List ℕ) (i sum : ℕ) {total : ℕ} (same : length words ≡ length rooms)
    (e : sum + set_aside (records_with (drop i words) (drop i rooms)) ≡ total) where
  module _ (l : i < length words) where
    next :
        records_with (drop i words) (drop i rooms)
        ≡ record_with (get_or words i 0) (get_or rooms i 0) ∷ records_with (drop (i + 1) words) (drop (i + 1) rooms)
    unfolding records_with
    next = let k : i < length rooms = omega arith in rw (add-one i, drop-cons words i 0, drop-cons rooms i 0)

    pub aside-next :
        sum + cond (is_open (record_of (get_or words i 0))) (get_or rooms i 0) 0
        + set_aside (records_with (drop (i + 1) words) (drop (i + 1) rooms))
        ≡ total
    unfolding set_aside record_with is_open
    aside-next = omega (arith, rw next at e)

  pub aside-ended : length words ≤ i → sum ≡ total
  unfolding set_aside records_with
  aside-ended l = omega (arith, rw (drop_of_length-le words l) at e)
