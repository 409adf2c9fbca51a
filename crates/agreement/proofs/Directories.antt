-- Code partition directories agree with documents 01 and 02. Assumes nothing.
use Prim.Native.Nat.{ℕ, ◌+◌, ◌<◌}
use mathlib.Core.Path.{◌≡◌, refl, sym, ap, ◌∙◌}
use mathlib.Core.Logic.{◌↔◌}
use mathlib.Core.Bool.{Bool, true, false, cond}
use mathlib.Core.List.{List, []}
use native.Mathlib.Omega.{arith}
use lib.ListN.{length}
use lib.Dec.{eqb, ltb}
use borrow.Author.Tests.{eq-eqb, ne_eqb, le-ltb, lt-ltb}
use Rattle.firmware.specs.Bytes.{then}
use Rattle.firmware.specs.Css
use Rattle.firmware.specs.Cpd
use Rattle.firmware.specs.Inside.{huc_name, huc_blob, huc_located, huc_number, huc_span}
use Rattle.firmware.specs.Inside.{huc_truncated, manifest_name, manifest_number, part_named}
use Rattle.firmware.specs.Version.{css_reading, huc_reading, manifest_reading, manifest_version, reading}
use Rattle.firmware.specs.Private.{outer}
use Rattle.firmware.specs.Bytes.{Location}
use Rattle.firmware.specs.declared.css.Component.{Component}
use Rattle.firmware.proofs.Inner.{found-bytes, huc-found}
use Rattle.firmware.proofs.Lies.{cpd_lies, huc_lies, located-ends}
use Rattle.firmware.proofs.Nowhere.{huc_outside_nowhere, name-nowhere}
use Rattle.firmware.proofs.Tests.{cases}
use Rattle.agreement.specs.Images.{bytes_of}
use Rattle.agreement.specs.Directories.{Directories, HucInside, InsideDirectories, ManifestInside, SharedName}
use Rattle.agreement.proofs.Images.{empty-at-start, very_bytes}
use Rattle.agreement.proofs.Entries.{directory_is, directory_passes, entry-at, entry-count, entry_is}
use Rattle.agreement.proofs.Entries.{entry-name, entry_passes, no_entry-name, part_at}
use Rattle.agreement.proofs.Seeks.{beyond-answers, beyond_is, found_is, found-located, found_passes, has_is}
use Rattle.agreement.proofs.Seeks.{is_has, none_answers, none_is, image_below, shared-answers, shared_is}

-- ---- inside

-- a location in a part, as one in the outer blob
module _ (at : ℕ) (l : Location) where
  outer-number : (outer at l).code ≡ l.code
  unfolding outer
  outer-number = cases (eqb l.start 0) (λ t. rw t refl) (λ t. rw t refl)

  outer-truncated : (outer at l).truncated ≡ l.truncated
  unfolding outer
  outer-truncated = cases (eqb l.start 0) (λ t. rw t refl) (λ t. rw t refl)

  outer-length : (outer at l).len ≡ l.len
  unfolding outer
  outer-length = cases (eqb l.start 0) (λ t. rw t refl) (λ t. rw t refl)

  outer-moved : (l.start ≡ 0 → ⊥) → (outer at l).start ≡ at + l.start
  unfolding outer
  outer-moved n = rw (ne_eqb l.start 0 n)

  outer-stays : l.start ≡ 0 → (outer at l).start ≡ 0
  unfolding outer
  outer-stays e = rw (eq-eqb l.start 0 e) e

module _ (b : List ℕ) (z : Cpd.number b huc_name ≡ 0) where
  -- a component of the image inside
  abbrev inner : Component → Location
  inner which = Css.located which (huc_blob b)

  huc_passes : eqb (Cpd.number b huc_name) 0 ≡ true
  huc_passes = eq-eqb (Cpd.number b huc_name) 0 z

  huc-judged : huc_number b ≡ Css.number (huc_blob b)
  unfolding huc_number
  huc-judged = rw huc_passes

  huc_read : huc_reading b ≡ css_reading (huc_blob b)
  unfolding huc_reading css_reading
  huc_read = rw huc-judged

  huc_is : (which : Component) → huc_located which b ≡ outer (Cpd.located b huc_name).start (inner which)
  huc_is which = sym (huc-found b which refl z (ap (Css.located which) (sym (found-bytes b huc_name refl))))

  pub huc-inside : HucInside b (bytes_of b (Cpd.located b huc_name)) (Cpd.located b huc_name).start
  huc-inside =
      record {
        number = huc-judged;
        reading = huc_read;
        component_number = λ which. ap (λ (l : Location). l.code) (huc_is which) ∙ outer-number _ (inner which);
        component_truncated = λ which. ap (λ (l : Location). l.truncated) (huc_is which) ∙ outer-truncated _ (inner which);
        component_length = λ which. ap (λ (l : Location). l.len) (huc_is which) ∙ outer-length _ (inner which);
        component_start = λ which n. ap (λ (l : Location). l.start) (huc_is which) ∙ outer-moved _ (inner which) n;
        not_shown = λ which e. ap (λ (l : Location). l.start) (huc_is which) ∙ outer-stays _ (inner which) e;
      }

module _ (b : List ℕ) (z : Cpd.number b manifest_name ≡ 0) where
  abbrev manifest : List ℕ
  manifest = part_named b manifest_name

  manifest_judged : manifest_number b ≡ cond (ltb (length manifest) 44) 15 0
  unfolding manifest_number
  manifest_judged = rw (eq-eqb (Cpd.number b manifest_name) 0 z)

  short : ltb (length manifest) 44 ≡ true → ((manifest_reading b).number ≡ 15) × ((manifest_reading b).version ≡ [])
  unfolding manifest_reading reading
  short t = let n : manifest_number b ≡ 15 = manifest_judged ∙ rw t in (n, rw n)

  long :
      ltb (length manifest) 44 ≡ false
      → ((manifest_reading b).number ≡ 0) × ((manifest_reading b).version ≡ manifest_version manifest)
  unfolding manifest_reading reading
  long t = let n : manifest_number b ≡ 0 = manifest_judged ∙ rw t in (n, rw n)

  pub manifest_inside : ManifestInside b (bytes_of b (Cpd.located b manifest_name))
  manifest_inside =
      record {
        too_short = λ l. short (lt-ltb _ 44 l);
        long_enough = λ l. long (le-ltb _ 44 l);
      }

-- what lies inside is never refused by 22 of its own, so 22 there is the directory's
module _ (b name : List ℕ) (after : ℕ) (below : after < 20) where
  passed_on : then (Cpd.number b name) after ≡ 22 → SharedName b name
  passed_on e =
      cases (eqb (Cpd.number b name) 0)
      (λ t. let w : after ≡ 22 = rw t at e in absurd (omega (arith, below, w)))
      (λ t. let w : Cpd.number b name ≡ 22 = rw t at e in shared_is b name w)

  promised : SharedName b name → then (Cpd.number b name) after ≡ 22
  promised x = rw (shared-answers b name x)

manifest_below : (t : Bool) → cond t 15 0 < 20
manifest_below true = omega arith
manifest_below false = omega arith

manifest_shared : (b : List ℕ) → (manifest_number b ≡ 22) ↔ SharedName b manifest_name
unfolding manifest_number
manifest_shared b =
    let l = manifest_below (ltb (length (part_named b manifest_name)) 44) in
    (passed_on b manifest_name _ l, promised b manifest_name _ l)

huc-shared : (b : List ℕ) → (huc_number b ≡ 22) ↔ SharedName b huc_name
unfolding huc_number
huc-shared b = let l = image_below (huc_blob b) in (passed_on b huc_name _ l, promised b huc_name _ l)

-- ---- every blob

pub directories : Directories
unfolding Cpd.entries_of
directories =
    record {
      exactly = λ b name. (found_is b name, found_passes b name);
      none_named = λ b name. (none_is b name, none_answers b name);
      shared = λ b name. (shared_is b name, shared-answers b name);
      beyond = λ b name. (beyond_is b name, beyond-answers b name);
      part = λ b name x. part_at b x.i _ (found-located b name x);
      same_number = λ b name. refl;
      not_truncated = λ b name. refl;
      refused = λ b name z. empty-at-start (Cpd.number b name) false _ (rw (name-nowhere b name (ne_eqb (Cpd.number b name) 0 z)));
      within = λ b name. located-ends (length b) (Cpd.part b name) (cpd_lies b name) (Cpd.number b name) false refl;
      very_bytes = λ name blob part. very_bytes (Cpd.number blob.now name) false (Cpd.part blob.now name) blob part;
      directory-exactly = λ b. (directory_is b, directory_passes b);
      entry-count = entry-count;
      entry = λ b i. (entry_is b i, entry_passes b i);
      entry-part = λ b i x. let z = entry_passes b i x in part_at b i _ (rw (z, entry-at b i z));
      entry_not_truncated = λ b i. refl;
      entry-name = entry-name;
      no_entry-name = no_entry-name;
      entry_has = λ b name i. (has_is b name i, is_has b name i);
    }

pub inside : InsideDirectories
unfolding huc_reading manifest_reading huc_number manifest_number reading
inside =
    record {
      manifest_shared = manifest_shared;
      huc-shared = λ which. huc-shared;
      huc-shared-reading = huc-shared;
      huc_outside = λ which b z.
          empty-at-start (Cpd.number b huc_name) false _ (huc_outside_nowhere b which (ne_eqb (Cpd.number b huc_name) 0 z));
      huc_outside_reading = λ b z. let n = ne_eqb (Cpd.number b huc_name) 0 z in (rw n, rw (n, n));
      huc-inside = huc-inside;
      huc-answer = λ which b. (refl, refl);
      huc-within = λ which b. located-ends (length b) (huc_span which b) (huc_lies b which) (huc_number b) (huc_truncated b) refl;
      huc_very_bytes = λ which blob part.
          very_bytes (huc_number blob.now) (huc_truncated blob.now) (huc_span which blob.now) blob part;
      manifest_outside = λ b z. let n = ne_eqb (Cpd.number b manifest_name) 0 z in (rw n, rw (n, n));
      manifest_inside = manifest_inside;
    }
