-- What an answer that meets its contract says of the definitions. Assumes nothing.
use Prim.Native.Nat.{ℕ, ◌+◌, ◌-◌, ◌*◌, ◌≤◌, ◌<◌}
use mathlib.Core.Path.{◌≡◌, refl, sym, ap, ◌∙◌}
use mathlib.Core.Bool.{Bool, true, false, cond}
use mathlib.Core.List.{List}
use native.Mathlib.Omega.{arith}
use lib.ListN.{length}
use lib.Dec.{eqb, leb, ltb}
use Rattle.std.specs.Prelude.{Option, None, Some, is_some, MatchOption}
use borrow.Author.Tests.{eq-eqb, ne_eqb, lt-ltb, le-ltb, le-leb, lt-leb}
use Rattle.firmware.specs.Bytes.{span, nowhere, located_at}
use Rattle.firmware.specs.Cpd
use Rattle.firmware.specs.Private.{Keyed, entry_judged, part_judged, table_of, walked}
use Rattle.firmware.specs.Private.{TableRead}
use Rattle.firmware.proofs.Names.{keyed_agrees, keyed_walked}
use Rattle.firmware.proofs.Search.{first-within}
use Rattle.firmware.proofs.Count.{count_met, count_none}

-- a directory judged
module _ (b : List ℕ) {t : TableRead} (e : t ≡ table_of b) where
  pub table-code : Cpd.directory_number b ≡ t.code
  unfolding table_of
  table-code = rw e

  pub table-start : t.code ≡ 0 → Cpd.header_length b ≡ t.start
  unfolding table_of
  table-start z = let d : eqb (Cpd.directory_number b) 0 ≡ true = eq-eqb (Cpd.directory_number b) 0 (table-code ∙ z) in rw (e, d)

  pub table-count : t.code ≡ 0 → Cpd.count b ≡ t.count
  unfolding table_of
  table-count z = let d : eqb (Cpd.directory_number b) 0 ≡ true = eq-eqb (Cpd.directory_number b) 0 (table-code ∙ z) in rw (e, d)

-- an entry of a directory that is refused
entry-refused :
    (b : List ℕ) (i : ℕ) (shared : Bool) → eqb (Cpd.directory_number b) 0 ≡ false
    → entry_judged b i shared ≡ located_at (Cpd.directory_number b) false nowhere
unfolding entry_judged
entry-refused b i shared e = simp e

-- and a name in it
name-refused :
    (b name : List ℕ) → Cpd.is_name name ≡ true → eqb (Cpd.directory_number b) 0 ≡ false
    → Cpd.located b name ≡ located_at (Cpd.directory_number b) false nowhere
unfolding Cpd.number Cpd.part
name-refused b name n e = simp (n, e)

pub entry-own :
    (b : List ℕ) {t : TableRead} (e : t ≡ table_of b) (i : ℕ) (shared : Bool) → eqb t.code 0 ≡ false
    → entry_judged b i shared ≡ located_at t.code false nowhere
entry-own b e i shared z =
    let d = table-code b e in
    entry-refused b i shared (rw d z) ∙ rw d

-- no name is sought by an index, so none is shared
pub entry-is : (b : List ℕ) (i : ℕ) → entry_judged b i false ≡ Cpd.entry_located b i
unfolding entry_judged Cpd.entry_number Cpd.entry_span
entry-is b i = refl

-- what a directory has
pub directory-is :
    (b : List ℕ) {t : TableRead} → t ≡ table_of b → ◌≡◌ {A = Cpd.Entries} (record { code = t.code; count = t.count }) (Cpd.entries_of b)
unfolding table_of Cpd.entries_of
directory-is b e = rw e

-- a directory that is accepted
own : (b : List ℕ) {t : TableRead} → t ≡ table_of b → t.code ≡ 0 → eqb (Cpd.directory_number b) 0 ≡ true
own b e z = eq-eqb (Cpd.directory_number b) 0 (table-code b e ∙ z)

-- an entry of it
module _ (b : List ℕ) {t : TableRead} (e : t ≡ table_of b) (z : t.code ≡ 0) (i : ℕ) (shared : Bool) where
  pub entry-none : t.count ≤ i → entry_judged b i shared ≡ located_at 20 false nowhere
  unfolding entry_judged
  entry-none l = simp (own b e z, table-count b e z, le-leb t.count i l)

  pub entry-part :
      i < t.count → (start len : ℕ) → start ≡ Cpd.offset b (t.start + 24 * i) → len ≡ Cpd.size b (t.start + 24 * i)
      → entry_judged b i shared ≡ part_judged (length b) (span start (start + len)) shared
  unfolding entry_judged part_judged
  entry-part l start len o s = simp (own b e z, table-count b e z, table-start b e z, lt-leb t.count i l, ← o, ← s)

-- a name that may not be sought, and one that is sought in what is no directory
pub no_name : (b name : List ℕ) → Cpd.is_name name ≡ false → located_at 14 false nowhere ≡ Cpd.located b name
unfolding Cpd.number Cpd.part
no_name b name n = simp n

pub name-own :
    (b name : List ℕ) {t : TableRead} (e : t ≡ table_of b) → Cpd.is_name name ≡ true → eqb t.code 0 ≡ false
    → located_at t.code false nowhere ≡ Cpd.located b name
name-own b name e n z =
    let d = table-code b e in
    sym (name-refused b name n (rw d z) ∙ rw d)

-- a walk from the first entry on ends behind the last one at most
pub walk_ends : (b key : List ℕ) (start count : ℕ) {i : ℕ} → i ≡ walked b key start count 0 → i ≤ count
unfolding walked
walk_ends b key start count w =
    let f = first-within (λ k. Cpd.agrees b key (start + 24 * k)) 0 (count - 0) in
    omega (arith, w, f.1)

-- the walks for a name that may be sought are over the entries of a directory that is accepted
module _ (b name key : List ℕ) {t : TableRead} (n : Cpd.is_name name ≡ true) (h : Keyed name key) (e : t ≡ table_of b) where
  module _ (z : t.code ≡ 0) where
    walked-entries :
        (from : ℕ) → walked b key t.start t.count from ≡ Cpd.first_from (Cpd.has_name b name) from (Cpd.count b - from)
    unfolding walked
    walked-entries from =
        keyed_walked b name key t.start t.count from h ∙ rw (sym (table-start b e z), sym (table-count b e z))

    -- the first walk comes to i
    module _ {i : ℕ} (w : i ≡ walked b key t.start t.count 0) where
      first_is : i ≡ Cpd.first_entry b name
      unfolding Cpd.first_entry
      first_is = let d : Cpd.count b - 0 ≡ Cpd.count b = omega arith in w ∙ walked-entries 0 ∙ rw d

      -- no entry has the name
      pub named-none : t.count ≤ i → located_at 20 false nowhere ≡ Cpd.located b name
      unfolding Cpd.number Cpd.part Cpd.entries_named Cpd.first_entry
      named-none l =
          let none : Cpd.entries_named b name ≡ 0 =
          count_none (Cpd.has_name b name) 0 (Cpd.count b) (omega (arith, first_is, table-count b e z)) in
          simp (n, own b e z, none)

      -- the second walk, from behind the entry found, comes to next
      module _ (l : i < t.count) {next : ℕ} (v : next ≡ walked b key t.start t.count (i + 1)) where
        found : i < Cpd.count b
        found = omega (arith, table-count b e z)

        next_is : next ≡ Cpd.first_from (Cpd.has_name b name) (i + 1) (Cpd.count b - (i + 1))
        next_is = v ∙ walked-entries (i + 1)

        -- how many have it: the one found, and those behind it
        named : Cpd.entries_named b name ≡ 1 + Cpd.count_from (Cpd.has_name b name) (i + 1) (Cpd.count b - (i + 1))
        unfolding Cpd.entries_named Cpd.first_entry
        named =
            let d : 0 + Cpd.count b ≡ Cpd.count b = omega arith in
            rw d at (count_met (Cpd.has_name b name) 0 (Cpd.count b) i first_is (omega (arith, found)))

        there : leb (Cpd.count b) i ≡ false
        there = lt-leb (Cpd.count b) i found

        named-once : t.count ≤ next → entry_judged b i false ≡ Cpd.located b name
        unfolding entry_judged Cpd.number Cpd.part
        named-once g =
            let none : Cpd.count_from (Cpd.has_name b name) (i + 1) (Cpd.count b - (i + 1)) ≡ 0
            = count_none (Cpd.has_name b name) (i + 1) (Cpd.count b - (i + 1))
            (omega (arith, next_is, found, table-count b e z)) in
            let one : Cpd.entries_named b name ≡ 1 = omega (arith, named, none) in
            simp (n, own b e z, one, there, ← first_is)

        named-twice : next < t.count → entry_judged b i true ≡ Cpd.located b name
        unfolding entry_judged Cpd.number Cpd.part
        named-twice g =
            let more =
            count_met (Cpd.has_name b name) (i + 1) (Cpd.count b - (i + 1)) next next_is
            (omega (arith, found, table-count b e z)) in
            let some : eqb (Cpd.entries_named b name) 0 ≡ false =
            ne_eqb (Cpd.entries_named b name) 0 (λ q. absurd (omega (arith, named, q))) in
            let two : ltb 1 (Cpd.entries_named b name) ≡ true = lt-ltb 1 (Cpd.entries_named b name) (omega (arith, named, more)) in
            simp (n, own b e z, some, two, there)

      -- whether the second walk finds one more says whether the name is shared
      pub named-so :
          i < t.count → (next : Option ℕ)
          → MatchOption next (t.count ≤ walked b key t.start t.count (i + 1))
          (λ j. (j ≡ walked b key t.start t.count (i + 1)) × (j < t.count))
          → entry_judged b i (is_some next) ≡ Cpd.located b name
      named-so l None m = named-once l refl m
      named-so l (Some j) m = named-twice l m.0 m.1

-- no entry has what is no name
pub has_no_name : (b name : List ℕ) (i : ℕ) → Cpd.is_name name ≡ false → false ≡ Cpd.entry_has b name i
unfolding Cpd.entry_has
has_no_name b name i n = simp n

-- whether entry i has a name
module _ (b name : List ℕ) {t : TableRead} (n : Cpd.is_name name ≡ true) (e : t ≡ table_of b) (i : ℕ) where
  entries_are : (Cpd.entries_of b).count ≡ t.count
  entries_are = ap (λ (x : Cpd.Entries). x.count) (sym (directory-is b e))

  pub has_none : t.count ≤ i → false ≡ Cpd.entry_has b name i
  unfolding Cpd.entry_has
  has_none l = simp (n, entries_are, le-ltb i t.count l)

  pub has_key :
      t.code ≡ 0 → i < t.count → (key : List ℕ) → Keyed name key → {r : Bool} → r ≡ Cpd.agrees b key (t.start + 24 * i)
      → r ≡ Cpd.entry_has b name i
  unfolding Cpd.entry_has
  has_key z l key h f =
      let same : Cpd.agrees b key (t.start + 24 * i) ≡ Cpd.has_name b name i =
      keyed_agrees b name key (t.start + 24 * i) h ∙ rw (table-start b e z) in
      simp (n, entries_are, lt-ltb i t.count l) (f ∙ same)

-- the span of entry i's name, where there is such an entry and where there is none
name-at :
    (t : Bool) (x y i : ℕ) → i < cond t y 0
    → cond (ltb i (cond t y 0)) (span (x + 24 * i) (x + 24 * i + 12)) nowhere ≡ span (cond t x 0 + 24 * i) (cond t x 0 + 24 * i + 12)
name-at true x y i l = simp (lt-ltb i y l)
name-at false x y i l = absurd (omega arith)

module _ (b : List ℕ) (i : ℕ) {t : TableRead} (e : t ≡ table_of b) where
  pub name-none : t.count ≤ i → Cpd.name_span b i ≡ nowhere
  unfolding Cpd.name_span Cpd.entries_of table_of
  name-none l = simp (le-ltb i _ (rw e at l))

  pub name-there : i < t.count → Cpd.name_span b i ≡ span (t.start + 24 * i) (t.start + 24 * i + 12)
  unfolding Cpd.name_span Cpd.entries_of table_of
  name-there l = rw e (name-at (eqb (Cpd.directory_number b) 0) (Cpd.header_length b) (Cpd.count b) i (rw e at l))
