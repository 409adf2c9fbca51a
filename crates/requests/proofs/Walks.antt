-- Walks over a table's words: how one goes on, and how it ends. Assumes nothing.
use Prim.Native.Nat.{ℕ, zero, suc, ◌+◌, ◌-◌, ◌≤◌, ◌<◌}
use mathlib.Core.Path.{◌≡◌, refl, sym, ap, ◌∙◌}
use mathlib.Core.Bool.{true, false}
use mathlib.Core.List.{List, [], ◌∷◌, ◌++◌, map-append}
use native.Mathlib.Omega.{arith}
use native.Mathlib.Numerals.{add-one}
use native.Mathlib.Nat.{add-zero, sub-zero}
use lib.ListN.{length, get_or, take, drop, length-map, drop_of_length-le}
use lib.Seq.{drop-cons, take-suc, split_at, length-take-le}
use Rattle.requests.specs.Table.{is_open, has_fence, still_open, lowest_free, place_of}
use Rattle.requests.specs.Words.{record_of, records}
use Rattle.requests.proofs.OpenFences.{within_open, end-closed}

-- the words from i on: one record, and the words from i + 1 on
pub next : (words : List ℕ) (i : ℕ) → i < length words
    → records (drop i words) ≡ record_of (get_or words i 0) ∷ records (drop (i + 1) words)
next words i l = rw (add-one i, drop-cons words i 0)

-- the first i + 1 words: the first i and one more
pub more : (words : List ℕ) (i : ℕ) → i < length words
    → records (take (i + 1) words) ≡ records (take i words) ++ record_of (get_or words i 0) ∷ []
more words i l = rw (add-one i, take-suc words i 0, map-append)

-- all the words, parted at i
pub parted : (words : List ℕ) (i : ℕ) → i < length words
    → records words ≡ records (take i words) ++ record_of (get_or words i 0) ∷ records (drop (suc i) words)
parted words i l = ap records (split_at words i 0 l) ∙ rw map-append

none : (words : List ℕ) (i : ℕ) → length words ≤ i → records (drop i words) ≡ []
none words i l = rw (drop_of_length-le words l)

-- the records of the first words are the first records
pub take-records : (n : ℕ) (words : List ℕ) → records (take n words) ≡ take n (records words)
take-records zero words = refl
take-records (suc n) [] = refl
take-records (suc n) (w ∷ words) = rw (take-records n words)

-- a walk for an open fence that has come to i
module _ (f : ℕ) (words : List ℕ) (i : ℕ) {x : ℕ} (e : x ≡ i + place_of f (records (drop i words))) where
  pub place_found : i < length words → has_fence f (record_of (get_or words i 0)) ≡ true → i ≡ x
  unfolding place_of
  place_found l h = sym (e ∙ rw (next words i l, h, add-zero))

  pub place_passed :
      i < length words → has_fence f (record_of (get_or words i 0)) ≡ false
      → x ≡ i + 1 + place_of f (records (drop (i + 1) words))
  unfolding place_of
  place_passed l h = e ∙ rw (next words i l, h) (omega arith)

  pub place_ended : length words ≤ i → i ≡ x
  unfolding place_of
  place_ended l = sym (e ∙ rw (none words i l, add-zero))

-- a walk for a free record that has come to i
module _ (words : List ℕ) (i : ℕ) {x : ℕ} (e : x ≡ i + lowest_free (records (drop i words))) where
  pub free-found : i < length words → is_open (record_of (get_or words i 0)) ≡ false → i ≡ x
  unfolding lowest_free
  free-found l h = sym (e ∙ rw (next words i l, h, add-zero))

  pub free_passed :
      i < length words → is_open (record_of (get_or words i 0)) ≡ true
      → x ≡ i + 1 + lowest_free (records (drop (i + 1) words))
  unfolding lowest_free
  free_passed l h = e ∙ rw (next words i l, h) (omega arith)

  pub free_ended : length words ≤ i → i ≡ x
  unfolding lowest_free
  free_ended l = sym (e ∙ rw (none words i l, add-zero))

-- what the place of a fence among the first i words says
module _
    (f : ℕ) (words : List ℕ) (i : ℕ) {x : ℕ} (l : i ≤ length words) (e : x ≡ place_of f (records (take (i - 0) words)))
  where
    place : place_of f (records (take i words)) ≡ x
    place = sym (rw sub-zero at e)

    so_many : length (records (take i words)) ≡ i
    so_many = simp (length-map, length-take-le)

    pub before_open : x < i → still_open (records (take i words)) f ≡ true
    before_open h = within_open f (records (take i words)) (omega (arith, place, so_many))

    pub before-closed : i ≤ x → still_open (records (take i words)) f ≡ false
    before-closed h = end-closed f (records (take i words)) (omega (arith, place, so_many))
