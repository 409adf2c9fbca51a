-- A directory and its entries agree with document 01. Assumes nothing.
use Prim.Native.Nat.{ℕ, ◌+◌, ◌*◌, ◌<◌}
use mathlib.Core.Path.{◌≡◌, refl}
use mathlib.Core.Bool.{false, not, ◌&&◌}
use mathlib.Core.List.{List}
use native.Mathlib.Omega.{arith}
use lib.ListN.{length, get_or}
use lib.Dec.{eqb, leb, ltb}
use borrow.Author.Tests.{eqb-true, le-leb, leb-true, leb-false, lt-leb, le-ltb, lt-ltb, ltb-true, ltb-false, not-false}
use Rattle.firmware.specs.Bytes.{nowhere, located_at, span}
use Rattle.firmware.specs.Cpd
use Rattle.firmware.specs.Bytes.{Location}
use Rattle.firmware.proofs.Tests.{both, both_pass, cases, unmet}
use Rattle.agreement.specs.Images.{At}
use Rattle.agreement.specs.Directories.{EntryThere, IsDirectory, entry_at, offset_at, size_at}

pub directory_is : (b : List ℕ) → Cpd.directory_number b ≡ 0 → IsDirectory b
unfolding Cpd.directory_number Cpd.has_marker
directory_is b e =
    let u = unmet (ltb (length b) 20) 15 _ refl e in
    let v = unmet (not (Cpd.has_marker b && leb 20 (Cpd.header_length b))) 18 _ refl u.1 in
    let w = unmet (ltb (length b) (Cpd.header_length b + 24 * Cpd.count b)) 19 0 refl v.1 in
    let x = both (Cpd.has_marker b) (leb 20 (Cpd.header_length b)) (not-false _ v.0) in
    let y₃ = both _ (eqb (get_or b 3 0) 0x44) x.0 in
    let y₂ = both _ (eqb (get_or b 2 0) 0x50) y₃.0 in
    let y₁ = both (eqb (get_or b 0 0) 0x24) (eqb (get_or b 1 0) 0x43) y₂.0 in
    record {
      has_header = ltb-false (length b) 20 u.0;
      marker_0 = eqb-true _ _ y₁.0;
      marker_1 = eqb-true _ _ y₁.1;
      marker_2 = eqb-true _ _ y₂.1;
      marker_3 = eqb-true _ _ y₃.1;
      header-length = leb-true 20 (get_or b 10 0) x.1;
      there = ltb-false (length b) (Cpd.header_length b + 24 * Cpd.count b) w.0;
    }

pub directory_passes : (b : List ℕ) → IsDirectory b → Cpd.directory_number b ≡ 0
unfolding Cpd.directory_number Cpd.has_marker
directory_passes b x =
    simp (
      le-ltb (length b) 20 x.has_header,
      x.marker_0,
      x.marker_1,
      x.marker_2,
      x.marker_3,
      le-leb 20 (get_or b 10 0) x.header-length,
      le-ltb (length b) (get_or b 10 0 + 24 * Cpd.count b) x.there,
    )

pub entry_is : (b : List ℕ) (i : ℕ) → Cpd.entry_number b i ≡ 0 → EntryThere b i
unfolding Cpd.entry_number
entry_is b i e =
    let u = both_pass (Cpd.directory_number b) _ e in
    let v = unmet (leb (Cpd.count b) i) 20 _ refl u.1 in
    let w = unmet (ltb (length b) (Cpd.entry_part b (Cpd.entry_start b i)).to) 21 0 refl v.1 in
    record {
      of_directory = directory_is b u.0;
      an_entry = leb-false (Cpd.count b) i v.0;
      part-there = ltb-false (length b) (Cpd.entry_part b (Cpd.entry_start b i)).to w.0;
    }

pub entry_passes : (b : List ℕ) (i : ℕ) → EntryThere b i → Cpd.entry_number b i ≡ 0
unfolding Cpd.entry_number
entry_passes b i x =
    simp (
      directory_passes b x.of_directory,
      lt-leb (Cpd.count b) i x.an_entry,
      le-ltb (length b) (Cpd.entry_part b (Cpd.entry_start b i)).to x.part-there,
    )

-- where its part lies
pub entry-at : (b : List ℕ) (i : ℕ) → Cpd.entry_number b i ≡ 0 → Cpd.entry_span b i ≡ Cpd.entry_part b (Cpd.entry_start b i)
unfolding Cpd.entry_span
entry-at b i e = rw e

pub part_at :
    (b : List ℕ) (i : ℕ) (l : Location) → l ≡ located_at 0 false (Cpd.entry_part b (Cpd.entry_start b i))
    → At (offset_at b (entry_at b i)) (size_at b (entry_at b i)) l
part_at b i l e = rw e (record { accepted = refl; starts = refl; size = omega arith })

pub entry-count : (b : List ℕ) → Cpd.directory_number b ≡ 0 → (Cpd.entries_of b).count ≡ Cpd.count b
unfolding Cpd.entries_of
entry-count b e = rw e

pub entry-name :
    (b : List ℕ) (i : ℕ) → IsDirectory b → i < Cpd.count b → Cpd.name_span b i ≡ span (entry_at b i) (entry_at b i + 12)
unfolding Cpd.name_span
entry-name b i x l = rw (entry-count b (directory_passes b x), lt-ltb i (Cpd.count b) l)

pub no_entry-name : (b : List ℕ) (i : ℕ) → (IsDirectory b → i < Cpd.count b → ⊥) → Cpd.name_span b i ≡ nowhere
unfolding Cpd.name_span Cpd.entries_of
no_entry-name b i f =
    cases (eqb (Cpd.directory_number b) 0)
    (λ t.
    let e : Cpd.directory_number b ≡ 0 = eqb-true (Cpd.directory_number b) 0 t in
    cases (ltb i (Cpd.count b)) (λ u. absurd (f (directory_is b e) (ltb-true i (Cpd.count b) u))) (λ u. rw (t, u)))
    (λ t. rw (t, le-ltb i 0 (omega arith)))
