-- The numbers of messages and of firmware calls are those of the first row that is given, and a refused one gives
-- nothing. Assumes nothing.
use Prim.Native.Nat.{ℕ, ◌<◌}
use mathlib.Core.Path.{◌≡◌, refl, sym, ap, ◌∙◌}
use mathlib.Core.Bool.{Bool, true, false, not, ◌&&◌, ◌||◌, cond}
use mathlib.Core.List.{List, [], ◌∷◌, ◌++◌}
use mathlib.Core.Option.{Option, none, some}
use native.Mathlib.Omega.{arith}
use lib.Dec.{eqb, leb, ltb}
use borrow.Author.Tests.{eqb-true, eqb-false, le-leb, leb-false, lt-leb, lt-ltb, ltb-false, ltb-true, ne_eqb, not-true}
use Rattle.message.proofs.Tests.{and_l, and_r, cases}
use Rattle.message.proofs.Agreement.{agreement}
use Rattle.message.specs.Fields.{dword, fit}
use Rattle.message.specs.Header.{is_message}
use Rattle.message.specs.Packing.{header_fields, hxg_fields, pack, pack_answer, refusing, unpack, unpack_answer}
use Rattle.message.specs.declared.Message.{Message}
use Rattle.firmware.specs.Bytes.{nowhere, located_at, then}
use Rattle.firmware.specs.Css
use Rattle.firmware.specs.Cpd
use Rattle.firmware.specs.Inside.{huc_blob, huc_name, huc_number, manifest_name, manifest_number, part_named}
use Rattle.firmware.specs.Version.{reading}
use Rattle.firmware.specs.Bytes.{Location}
use Rattle.firmware.proofs.Count.{count_some, count-two, count_zero, two-count}
use Rattle.firmware.proofs.Search.{all-each, all_fails, first_met, none_met}
use Rattle.refusals.specs.Order.{Row, row}
use Rattle.refusals.specs.Table.{any, directory_rows, entry_rows, image_rows, manifest_rows, row_4}
use Rattle.refusals.specs.Table.{row_14_fields, row_20, row_20_index, row_21, row_22, seek_tests}
use Rattle.refusals.specs.Refusals.{LocationRefused, huc_tests, manifest_tests}
use Rattle.refusals.proofs.Lowest.{first-behind, first_judged, first_of, rising}
use Rattle.refusals.proofs.Rows.{below, either_fails}

-- ---- messages

-- an answer that refuses has nothing
pub refused_nothing : {A : Type 0} (n : ℕ) (x : Option A) → ((refusing n x).number ≡ 0 → ⊥) → (refusing n x).value ≡ none
unfolding refusing
refused_nothing n none z = refl
refused_nothing n (some a) z = absurd (z refl)

-- what is refused by n where a test holds
number_by :
    {A : Type 0} (n : ℕ) (t : Bool) (x : Option A) → (t ≡ true → (a : A) × (x ≡ some a)) → (t ≡ false → x ≡ none)
    → (refusing n x).number ≡ cond (not t) n 0
unfolding refusing
number_by n true x met unmet = let a = met refl in rw a.1
number_by n false x met unmet = rw (unmet refl)

some_dword : (n : ℕ) → leb 1 n ≡ not (eqb n 0)
some_dword n =
    cases (eqb n 0)
    (λ t. lt-leb 1 n (omega (arith, eqb-true n 0 t)) ∙ ap not (sym t))
    (λ t. le-leb 1 n (omega (arith, eqb-false n 0 t)) ∙ ap not (sym t))

-- packing's one test against the row's three
wide : (a b c : Bool) → (not b || not c || a) ≡ not (not a && b && c)
wide true true true = refl
wide true true false = refl
wide true false true = refl
wide true false false = refl
wide false true true = refl
wide false true false = refl
wide false false true = refl
wide false false false = refl

pub packs : (m : Message) → (pack_answer m).number ≡ first_of (row_14_fields m ∷ [])
unfolding pack first_of
packs m =
    let t : Bool = leb 1 m.num_dwords && fit (header_fields m) && fit (hxg_fields m) in
    let same : (not (fit (header_fields m)) || not (fit (hxg_fields m)) || eqb m.num_dwords 0) ≡ not t
    = rw (some_dword m.num_dwords) (wide (eqb m.num_dwords 0) (fit (header_fields m)) (fit (hxg_fields m))) in
    rw same (number_by 14 t (pack m) (λ e. ((dword (header_fields m), dword (hxg_fields m)), rw e)) (λ e. rw e))

pub unpacks : (d : List ℕ) → (unpack_answer d).number ≡ first_of (row_4 d ∷ [])
unfolding first_of
unpacks d = number_by 4 (is_message d) (unpack d) (agreement.accepts d) (agreement.refuses d)

-- ---- firmware

pub image-number : (b : List ℕ) → Css.number b ≡ first_of (image_rows b)
unfolding Css.number first_of
image-number b = refl

pub directory-number : (b : List ℕ) → Cpd.directory_number b ≡ first_of (directory_rows b)
unfolding Cpd.directory_number first_of
directory-number b =
    let same : (not (Cpd.has_marker b) || ltb (Cpd.header_length b) 20) ≡ not (Cpd.has_marker b && leb 20 (Cpd.header_length b))
    = rw (below (Cpd.header_length b) 20) (either_fails (Cpd.has_marker b) (leb 20 (Cpd.header_length b))) in
    rw same

-- behind the directory's own numbers
behind :
    (b : List ℕ) (number : ℕ) (more : List Row) → number ≡ first_of more
    → then (Cpd.directory_number b) number ≡ first_of (directory_rows b ++ more)
unfolding rising
behind b number more e = rw (directory-number b, e) (sym (first-behind 0 (directory_rows b) more refl))

-- 20, then 21 where there is an entry
entry_rows_lem : (t u x : Bool) → u ≡ not t → cond t 20 (cond x 21 0) ≡ first_of (row 20 t ∷ row 21 (u && x) ∷ [])
unfolding first_of
entry_rows_lem true u x e = refl
entry_rows_lem false u x e = rw e refl

pub entry-number : (b : List ℕ) (i : ℕ) → Cpd.entry_number b i ≡ first_of (entry_rows b i)
unfolding Cpd.entry_number
entry-number b i =
    behind b _ (row_20_index b i ∷ row_21 b i ∷ []) (entry_rows_lem (leb (Cpd.count b) i) (ltb i (Cpd.count b)) _ (below i (Cpd.count b)))

-- a number, or 0 where it is 0
zero_or : (n : ℕ) → n ≡ cond (eqb n 0) 0 n
zero_or n = cases (eqb n 0) (λ t. rw t (eqb-true n 0 t)) (λ t. rw t refl)

-- one thing judged, and others behind those judged
pub alone : (rs : List Row) → first_of rs ≡ first_judged (rs ∷ [])
unfolding first_judged
alone rs = zero_or (first_of rs)

pub judged-behind : (js more : List (List Row)) → then (first_judged js) (first_judged more) ≡ first_judged (js ++ more)
unfolding first_judged
judged-behind [] more = refl
judged-behind (rs ∷ js) more =
    cases (eqb (first_of rs) 0)
    (λ t. rw t (judged-behind js more))
    (λ t. rw (t, t))

-- ---- a name sought

fails : (t : Bool) → (t ≡ true → ⊥) → t ≡ false
fails true h = absurd (h refl)
fails false h = refl

-- where there is one below n, and where there is none
any_true : (p : ℕ → Bool) (n i : ℕ) → i < n → p i ≡ true → any p n ≡ true
any_true p n i l t = ap not (all_fails (λ k. not (p k)) n i l (ap not t))

any_false : (p : ℕ → Bool) (n : ℕ) → ((i : ℕ) → i < n → p i ≡ true → ⊥) → any p n ≡ false
any_false p n h = ap not (all-each (λ k. not (p k)) n (λ i l. ap not (fails (p i) (h i l))))

any_met : (p : ℕ → Bool) (n : ℕ) → any p n ≡ true → (Cpd.first_from p 0 n < n) × (p (Cpd.first_from p 0 n) ≡ true)
any_met p n e =
    let l : Cpd.first_from p 0 n < n = leb-false n (Cpd.first_from p 0 n) (sym (none_met p n) ∙ not-true _ e) in
    (l, first_met p 0 n (omega (arith, l)))

-- there is one exactly where some are counted, and one with one before it exactly where two are
module _ (p : ℕ → Bool) (n : ℕ) where
  any-counted : not (any p n) ≡ eqb (Cpd.count_from p 0 n) 0
  any-counted =
      cases (eqb (Cpd.count_from p 0 n) 0)
      (λ t. ap not (any_false p n (count_zero p n (eqb-true (Cpd.count_from p 0 n) 0 t))) ∙ sym t)
      (λ t.
      let f = count_some p n (eqb-false (Cpd.count_from p 0 n) 0 t) in
      ap not (any_true p n (Cpd.first_from p 0 n) f.0 f.1) ∙ sym t)

  any-two : any (λ j. p j && any p j) n ≡ ltb 1 (Cpd.count_from p 0 n)
  any-two =
      cases (ltb 1 (Cpd.count_from p 0 n))
      (λ t.
      let f = count-two p n (ltb-true 1 (Cpd.count_from p 0 n) t) in
      any_true (λ j. p j && any p j) n _ f.1 (rw (f.3, any_true p _ (Cpd.first_from p 0 n) f.0 f.2)) ∙ sym t)
      (λ t.
      any_false (λ j. p j && any p j) n
      (λ j l u.
      let m = any_met p j (and_r (p j) (any p j) u) in
      let twice = two-count p n (Cpd.first_from p 0 j) j m.0 l m.1 (and_l (p j) (any p j) u) in
      absurd (omega (arith, ltb-false 1 (Cpd.count_from p 0 n) t, twice)))
      ∙ sym t)

-- 20, then 22, then 21 where there is an entry
named_rows :
    (t u v x : Bool) → (t ≡ false → v ≡ true)
    → cond t 20 (cond u 22 (cond x 21 0))
    ≡ then (first_of (row 20 t ∷ [])) (first_judged ((row 22 u ∷ []) ∷ (row 21 (v && x) ∷ []) ∷ []))
unfolding first_of first_judged
named_rows true u v x e = refl
named_rows false true v x e = refl
named_rows false false v true e = rw (e refl)
named_rows false false v false e = rw (e refl)

-- three numbers, one after another
in_turn : (n m k : ℕ) → then n (then m k) ≡ then (then n m) k
in_turn n m k = cases (eqb n 0) (λ t. rw t) (λ t. rw (t, t))

module _ (b name : List ℕ) where
  -- the rows of a name behind the directory's, and the tests that follow them
  abbrev none_rows : List Row
  none_rows = row_20 b name ∷ []

  abbrev later : List (List Row)
  later = (row_22 b name ∷ []) ∷ (row_21 b (Cpd.first_entry b name) ∷ []) ∷ []

  abbrev counted : ℕ
  counted = Cpd.entries_named b name

  abbrev chain : ℕ
  chain = cond (eqb counted 0) 20 (cond (ltb 1 counted) 22 (Cpd.part_number b (Cpd.first_entry b name)))

  chain_rows : chain ≡ then (first_of none_rows) (first_judged later)
  unfolding Cpd.entries_named Cpd.first_entry
  chain_rows =
      let n : ℕ = Cpd.count b in
      rw (any-counted (Cpd.has_name b name) n, any-two (Cpd.has_name b name) n)
      (named_rows (eqb counted 0) (ltb 1 counted) (ltb (Cpd.first_entry b name) n) _
      (λ e. lt-ltb (Cpd.first_entry b name) n (count_some (Cpd.has_name b name) n (eqb-false counted 0 e)).0))

  behind-directory : then (Cpd.directory_number b) chain ≡ then (first_of (directory_rows b ++ none_rows)) (first_judged later)
  behind-directory =
      let own : then (Cpd.directory_number b) (first_of none_rows) ≡ first_of (directory_rows b ++ none_rows) = behind b _ none_rows refl in
      rw (chain_rows, ← own) (in_turn (Cpd.directory_number b) (first_of none_rows) (first_judged later))

  pub seek_number : Cpd.number b name ≡ first_judged (seek_tests b name)
  unfolding Cpd.number first_of first_judged
  seek_number = cases (Cpd.is_name name) (λ t. rw t behind-directory) (λ t. rw t)

-- what lies inside is judged behind it
seek_then :
    (b name : List ℕ) (number : ℕ) (inner : List Row) → number ≡ first_of inner
    → then (Cpd.number b name) number ≡ first_judged (seek_tests b name ++ (inner ∷ []))
seek_then b name number inner e = rw (seek_number b name, e, alone inner) (judged-behind (seek_tests b name) (inner ∷ []))

pub manifest_number_lem : (b : List ℕ) → manifest_number b ≡ first_judged (manifest_tests b)
unfolding manifest_number first_of
manifest_number_lem b = seek_then b manifest_name _ (manifest_rows (part_named b manifest_name)) refl

pub huc-number : (b : List ℕ) → huc_number b ≡ first_judged (huc_tests b)
unfolding huc_number
huc-number b = seek_then b huc_name _ (image_rows (huc_blob b)) (image-number (huc_blob b))

-- ---- what a refusal gives

pub location_refused : (number : ℕ) (l : Location) → l ≡ located_at number false nowhere → LocationRefused l
location_refused number l e = rw e (record { at-start = refl; empty = refl; not_truncated = refl })

pub reading-refused :
    (number : ℕ) (version : List ℕ) → ((reading number version).number ≡ 0 → ⊥) → (reading number version).version ≡ []
unfolding reading
reading-refused number version z = rw (ne_eqb number 0 z)
