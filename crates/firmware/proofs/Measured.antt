-- The figures beside a number: what each path of the code answers is what the definitions say. Assumes nothing.
use Prim.Native.Nat.{ℕ, ◌+◌, ◌*◌, ◌≤◌, ◌<◌}
use mathlib.Core.Path.{◌≡◌, refl, sym, ap, subst, ◌∙◌}
use mathlib.Core.Bool.{true, false, ◌&&◌, cond}
use mathlib.Core.List.{List}
use lib.ListN.{length}
use lib.Dec.{eqb, leb, ltb}
use borrow.Author.Tests.{eq-eqb, eqb-true, ltb-true, ltb-false, lt-ltb, le-ltb, le-leb, lt-leb}
use Rattle.firmware.specs.Bytes.{span, bytes}
use Rattle.firmware.specs.Css
use Rattle.firmware.specs.Cpd
use Rattle.firmware.specs.Inside.{manifest_name, huc_name, huc_blob, huc_number, part_named, manifest_number}
use Rattle.firmware.specs.Figures.{figures, short, unmeasured, measured, image_needs, image_figures}
use Rattle.firmware.specs.Figures.{entries_end, directory_figures, part_end, entry_figures, manifest_figures, huc_figures}
use Rattle.firmware.specs.Figures.{Measures}
use Rattle.firmware.specs.Private.{table_of}
use Rattle.firmware.specs.Bytes.{Location}
use Rattle.firmware.specs.declared.css.Sizes.{Sizes}
use Rattle.firmware.specs.Private.{TableRead}
use Rattle.firmware.proofs.Lies.{cpd_lies, located-code, length-bytes}
use Rattle.firmware.proofs.Read.{table-code, table-start, table-count}
use Rattle.firmware.proofs.Inner.{found-bytes}
use Rattle.firmware.proofs.Tests.{cases}

-- an image, by the tests of its number one after another
pub image-short : (b : List ℕ) → length b < 128 → measured 15 128 128 (length b) ≡ image_figures b
unfolding measured image_figures Css.number
image-short b l = simp (lt-ltb (length b) 128 l)

module _ (b : List ℕ) (l : 128 ≤ length b) {z : Sizes} (s : z ≡ Css.sizes b) where
  pub image_unsized : Css.agree z ≡ false → unmeasured 16 (length b) ≡ image_figures b
  unfolding image_figures Css.number
  image_unsized a = simp (le-ltb (length b) 128 l, ← s, a)

  pub image_sized : Css.agree z ≡ true → measured 17 (image_needs z) (4 * z.s) (length b) ≡ image_figures b
  unfolding measured image_figures Css.number
  image_sized a =
      cases (ltb (length b) (image_needs z))
      (λ t. simp (le-ltb (length b) 128 l, ← s, a, t))
      (λ t. simp (le-ltb (length b) 128 l, ← s, a, t))

-- a directory's number says which figures stand beside it
abbrev figures_by : ℕ → ℕ → ℕ → Measures
figures_by n needed there =
    cond (eqb n 15) (short 20 there) (cond (eqb n 18) (unmeasured 18 there) (figures n needed needed there))

by_number : (n needed there : ℕ) →
    figures n (figures_by n needed there).needed (figures_by n needed there).needed there ≡ figures_by n needed there
by_number n needed there =
    cases (eqb n 15)
    (λ f. let z : n ≡ 15 = eqb-true n 15 f in rw z)
    (λ f. cases (eqb n 18) (λ g. let z : n ≡ 18 = eqb-true n 18 g in rw z) (λ g. simp (f, g)))

module _ (b : List ℕ) {t : TableRead} (e : t ≡ table_of b) where
  pub table-figures : figures t.code t.needed t.needed (length b) ≡ directory_figures b
  unfolding table_of directory_figures
  table-figures = rw e (by_number (Cpd.directory_number b) (entries_end b) (length b))

  -- an entry of a directory that is refused, and of one that is accepted
  pub entry-refused : (i : ℕ) → eqb t.code 0 ≡ false → figures t.code t.needed t.needed (length b) ≡ entry_figures b i
  unfolding entry_figures
  entry-refused i z =
      let d : eqb (Cpd.directory_number b) 0 ≡ false = rw (table-code b e) z in
      simp d table-figures

  module _ (z : t.code ≡ 0) (i : ℕ) where
    own : eqb (Cpd.directory_number b) 0 ≡ true
    own = eq-eqb (Cpd.directory_number b) 0 (table-code b e ∙ z)

    pub entry-none : t.count ≤ i → unmeasured 20 (length b) ≡ entry_figures b i
    unfolding entry_figures
    entry-none l = simp (own, table-count b e z, le-leb t.count i l)

    pub entry-measured : i < t.count → (start len : ℕ) →
        start ≡ Cpd.offset b (t.start + 24 * i) → len ≡ Cpd.size b (t.start + 24 * i) →
        measured 21 (start + len) (start + len) (length b) ≡ entry_figures b i
    unfolding measured entry_figures
    entry-measured l start len o s = simp (own, table-count b e z, table-start b e z, lt-leb t.count i l, ← o, ← s)

-- a part that is sought: where it is not handed out nothing is measured
module _ (b name : List ℕ) {f : Location} (e : f ≡ Cpd.located b name) where
  sought : f.code ≡ 0 → eqb (Cpd.number b name) 0 ≡ true
  sought z = eq-eqb (Cpd.number b name) 0 (located-code (Cpd.number b name) false (Cpd.part b name) e ∙ z)

  not_sought : eqb f.code 0 ≡ false → eqb (Cpd.number b name) 0 ≡ false
  not_sought z = rw (located-code (Cpd.number b name) false (Cpd.part b name) e) z

  part_length : length (part_named b name) ≡ f.len
  part_length = length-bytes b (Cpd.part b name) (cpd_lies b name) ∙ sym (ap (λ (x : Location). x.len) e)

module _ (b : List ℕ) {f : Location} (e : f ≡ Cpd.located b manifest_name) where
  pub manifest_refused : eqb f.code 0 ≡ false → unmeasured f.code 0 ≡ manifest_figures b
  unfolding manifest_figures
  manifest_refused z = simp (not_sought b manifest_name e z) (rw e)

  pub manifest_measured : f.code ≡ 0 → measured 15 44 44 f.len ≡ manifest_figures b
  unfolding measured manifest_figures manifest_number
  manifest_measured z = simp (sought b manifest_name e z, part_length b manifest_name e)

module _ (b : List ℕ) {f : Location} (e : f ≡ Cpd.located b huc_name) where
  pub huc-refused : eqb f.code 0 ≡ false → unmeasured f.code 0 ≡ huc_figures b
  unfolding huc_figures
  huc-refused z = simp (not_sought b huc_name e z) (rw e)

  pub huc-measured :
      f.code ≡ 0 → {r : Measures} → r ≡ image_figures (bytes b (span f.start (f.start + f.len)))
      → r ≡ huc_figures b
  unfolding huc_figures
  huc-measured z q = simp (sought b huc_name e z) (rw (found-bytes b huc_name e) at q)

-- ---- the number beside the figures is the one that the calls answer

-- the figures of a number n that asks for the bytes of a header at 15 and for none at k
figures-code : (n k short needed complete there : ℕ) →
    (cond (eqb n 15) (figures 15 short short there) (cond (eqb n k) (unmeasured k there) (figures n needed complete there))).code ≡ n
figures-code n k short needed complete there =
    cases (eqb n 15)
    (λ f. simp f (sym (eqb-true n 15 f)))
    (λ f. cases (eqb n k) (λ g. simp (f, g) (sym (eqb-true n k g))) (λ g. simp (f, g)))

pub image_code : (b : List ℕ) → (image_figures b).code ≡ Css.number b
unfolding image_figures
image_code b = figures-code (Css.number b) 16 128 (image_needs (Css.sizes b)) (4 * (Css.sizes b).s) (length b)

pub directory-code : (b : List ℕ) → (directory_figures b).code ≡ Cpd.directory_number b
unfolding directory_figures
directory-code b = figures-code (Cpd.directory_number b) 18 20 (entries_end b) (entries_end b) (length b)

pub entry-code : (b : List ℕ) (i : ℕ) → (entry_figures b i).code ≡ Cpd.entry_number b i
unfolding entry_figures Cpd.entry_number
entry-code b i =
    cases (eqb (Cpd.directory_number b) 0)
    (λ f. cases (leb (Cpd.count b) i) (λ g. simp (f, g)) (λ g. simp (f, g)))
    (λ f. simp f (directory-code b))

pub manifest_code : (b : List ℕ) → (manifest_figures b).code ≡ manifest_number b
unfolding manifest_figures manifest_number
manifest_code b = cases (eqb (Cpd.number b manifest_name) 0) (λ f. simp f) (λ f. simp f)

pub huc-code : (b : List ℕ) → (huc_figures b).code ≡ huc_number b
unfolding huc_figures huc_number
huc-code b = cases (eqb (Cpd.number b huc_name) 0) (λ f. simp f (image_code (huc_blob b))) (λ f. simp f)

-- ---- where a number is not 0, bytes are missing or none are asked for

pub record Missing (f : Measures) : Type 0 where
  pub missing : (f.code ≡ 0 → ⊥) → (f.needed ≡ 0 → ⊥) → f.there < f.needed

none_asked : (n there : ℕ) → Missing (unmeasured n there)
none_asked n there = record { missing = λ z q. absurd (q refl) }

too_few : (n needed complete there : ℕ) → Missing (measured n needed complete there)
unfolding measured
too_few n needed complete there = record {
  missing = λ z q.
      cases (ltb there needed)
      (λ t. ltb-true there needed t)
      (λ t. absurd (z (simp t)));
}

by_measure : (n needed complete there : ℕ) → Missing (figures (cond (ltb there needed) n 0) needed complete there)
unfolding measured
by_measure n needed complete there = too_few n needed complete there

pub image-missing : (b : List ℕ) → Missing (image_figures b)
image-missing b =
    cases (ltb (length b) 128)
    (λ t. subst Missing (image-short b (ltb-true (length b) 128 t)) (too_few 15 128 128 (length b)))
    (λ t.
    let l = ltb-false (length b) 128 t in
    cases (Css.agree (Css.sizes b))
    (λ a. subst Missing (image_sized b l refl a) (too_few 17 (image_needs (Css.sizes b)) (4 * (Css.sizes b).s) (length b)))
    (λ a. subst Missing (image_unsized b l refl a) (none_asked 16 (length b))))

-- a directory, by its tests
directory-short : (b : List ℕ) → ltb (length b) 20 ≡ true → measured 15 20 20 (length b) ≡ directory_figures b
unfolding measured directory_figures Cpd.directory_number
directory-short b t = simp t

module _ (b : List ℕ) (t : ltb (length b) 20 ≡ false) where
  directory_unmarked :
      (Cpd.has_marker b && leb 20 (Cpd.header_length b)) ≡ false → unmeasured 18 (length b) ≡ directory_figures b
  unfolding directory_figures Cpd.directory_number
  directory_unmarked m = simp (t, m)

  directory-marked :
      (Cpd.has_marker b && leb 20 (Cpd.header_length b)) ≡ true →
      measured 19 (entries_end b) (entries_end b) (length b) ≡ directory_figures b
  unfolding measured directory_figures Cpd.directory_number
  directory-marked m =
      cases (ltb (length b) (entries_end b)) (λ u. simp (t, m, u)) (λ u. simp (t, m, u))

pub directory-missing : (b : List ℕ) → Missing (directory_figures b)
directory-missing b =
    cases (ltb (length b) 20)
    (λ t. subst Missing (directory-short b t) (too_few 15 20 20 (length b)))
    (λ t.
    cases (Cpd.has_marker b && leb 20 (Cpd.header_length b))
    (λ m. subst Missing (directory-marked b t m) (too_few 19 (entries_end b) (entries_end b) (length b)))
    (λ m. subst Missing (directory_unmarked b t m) (none_asked 18 (length b))))

pub entry-missing : (b : List ℕ) (i : ℕ) → Missing (entry_figures b i)
unfolding entry_figures
entry-missing b i =
    cases (eqb (Cpd.directory_number b) 0)
    (λ f.
    cases (leb (Cpd.count b) i)
    (λ g. simp (f, g) (none_asked 20 (length b)))
    (λ g. simp (f, g) (by_measure 21 (part_end b i) (part_end b i) (length b))))
    (λ f. simp f (directory-missing b))

pub manifest_missing : (b : List ℕ) → Missing (manifest_figures b)
unfolding manifest_figures manifest_number
manifest_missing b =
    cases (eqb (Cpd.number b manifest_name) 0)
    (λ f. simp f (by_measure 15 44 44 (length (part_named b manifest_name))))
    (λ f. simp f (none_asked (Cpd.number b manifest_name) 0))

pub huc-missing : (b : List ℕ) → Missing (huc_figures b)
unfolding huc_figures
huc-missing b =
    cases (eqb (Cpd.number b huc_name) 0)
    (λ f. simp f (image-missing (huc_blob b)))
    (λ f. simp f (none_asked (Cpd.number b huc_name) 0))
