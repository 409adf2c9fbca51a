-- A name sought in a directory agrees with documents 01 and 02: when it is found, and when 20, 22 and 21 are answered.
-- Assumes nothing.
use Prim.Native.Nat.{ℕ, ◌+◌, ◌-◌, ◌*◌, ◌≤◌, ◌<◌}
use mathlib.Core.Path.{◌≡◌, refl, sym, ap, ◌∙◌}
use mathlib.Core.Bool.{Bool, true, false, not, ◌&&◌, cond}
use mathlib.Core.List.{List}
use native.Mathlib.Omega.{arith}
use lib.ListN.{length, get_or}
use lib.Dec.{eqb, leb, ltb}
use borrow.Author.Tests.{eq-eqb, eqb-true, eqb-false, ne_eqb, le-leb, leb-true, le-ltb, lt-ltb, ltb-true, ltb-false}
use Rattle.firmware.specs.Bytes.{located_at}
use Rattle.firmware.specs.Css
use Rattle.firmware.specs.Cpd
use Rattle.firmware.proofs.Count.{count_some, count-two, count_zero, two-count, zero_count}
use Rattle.firmware.proofs.Search.{all-each, all-holds}
use Rattle.firmware.proofs.Tests.{both, cases, true_false, unmet}
use Rattle.agreement.specs.Directories.{EntryNamed, Found, HasName, IsName, NoneNamed, OnlyNamed, PartBeyond, SharedName, part_end}
use Rattle.agreement.proofs.Entries.{directory_is, directory_passes, entry-count}

name_is : (name : List ℕ) → Cpd.is_name name ≡ true → IsName name
unfolding Cpd.is_name
name_is name e =
    let u = both (leb 1 (length name) && leb (length name) 12) (Cpd.all (Cpd.nonzero name) (length name)) e in
    let v = both (leb 1 (length name)) (leb (length name) 12) u.0 in
    record {
      one = leb-true 1 (length name) v.0;
      twelve = leb-true (length name) 12 v.1;
      no_zero = λ j l z. true_false (sym (all-holds (Cpd.nonzero name) (length name) j l u.1) ∙ ap not (eq-eqb (get_or name j 0) 0 z));
    }

name_passes : (name : List ℕ) → IsName name → Cpd.is_name name ≡ true
unfolding Cpd.is_name
name_passes name x =
    let no_zero = all-each (Cpd.nonzero name) (length name) (λ j l. ap not (ne_eqb (get_or name j 0) 0 (x.no_zero j l))) in
    simp (le-leb 1 (length name) x.one, le-leb (length name) 12 x.twelve, no_zero)

-- the directory's own numbers, and an image's, are below a name's
below_20 : (t u v : Bool) (i j k : ℕ) → i < 20 → j < 20 → k < 20 → cond t i (cond u j (cond v k 0)) < 20
below_20 true u v i j k x y z = x
below_20 false true v i j k x y z = y
below_20 false false true i j k x y z = z
below_20 false false false i j k x y z = omega arith

directory_below : (b : List ℕ) → Cpd.directory_number b < 20
unfolding Cpd.directory_number
directory_below b =
    below_20 (ltb (length b) 20) (not (Cpd.has_marker b && leb 20 (Cpd.header_length b)))
    (ltb (length b) (Cpd.header_length b + 24 * Cpd.count b)) 15 18 19 (omega arith) (omega arith) (omega arith)

pub image_below : (b : List ℕ) → Css.number b < 20
unfolding Css.number
image_below b =
    let z = Css.sizes b in
    below_20 (ltb (length b) 128) (not (Css.agree z)) (ltb (length b) (128 + 4 * (z.s - z.h) + 4 * z.k)) 15 16 17
    (omega arith) (omega arith) (omega arith)

module _ (b name : List ℕ) where
  abbrev has : ℕ → Bool
  has = Cpd.has_name b name

  has_name_fact : (i : ℕ) → has i ≡ true → HasName b name i
  has_name_fact i e j l = eqb-true _ _ (all-holds (λ j. eqb (get_or b (Cpd.entry_start b i + j) 0) (get_or name j 0)) 12 j l e)

  name_has : (i : ℕ) → HasName b name i → has i ≡ true
  name_has i f = all-each (λ j. eqb (get_or b (Cpd.entry_start b i + j) 0) (get_or name j 0)) 12 (λ j l. eq-eqb _ _ (f j l))

  -- what is judged behind 14 and the directory's own numbers
  abbrev named : ℕ
  named = Cpd.entries_named b name

  abbrev at : ℕ
  at = Cpd.first_entry b name

  abbrev behind : ℕ
  behind = cond (eqb named 0) 20 (cond (ltb 1 named) 22 (Cpd.part_number b at))

  -- a number that is neither 14 nor the directory's is of the name in a directory
  record Judged (c : ℕ) : Type 0 where
    is_name : Cpd.is_name name ≡ true
    passes : Cpd.directory_number b ≡ 0
    answers : behind ≡ c

  judged :
      (c : ℕ) → (14 ≡ c → ⊥) → (Cpd.directory_number b ≡ c → Cpd.directory_number b ≡ 0) → Cpd.number b name ≡ c
      → Judged c
  unfolding Cpd.number
  judged c other own z =
      cases (Cpd.is_name name)
      (λ t.
      cases (eqb (Cpd.directory_number b) 0)
      (λ u. record { is_name = t; passes = eqb-true (Cpd.directory_number b) 0 u; answers = rw (t, u) at z })
      (λ u.
      let w : Cpd.directory_number b ≡ c = rw (t, u) at z in
      absurd (eqb-false (Cpd.directory_number b) 0 u (own w))))
      (λ t. let w : 14 ≡ c = rw t at z in absurd (other w))

  judged-name : (c : ℕ) → 20 ≤ c → Cpd.number b name ≡ c → Judged c
  judged-name c l =
      judged c (λ e. absurd (omega (arith, e)))
      (λ e. absurd (omega (arith, e, directory_below b)))

  -- a part's number is 21 or 0
  part-number : (c : ℕ) → Cpd.part_number b at ≡ c → (c ≡ 21 → ⊥) → (c ≡ 0 → ⊥) → ⊥
  part-number c e n z =
      cases (ltb (length b) (part_end b at)) (λ t. n (sym (rw t at e))) (λ t. z (sym (rw t at e)))

  -- by how many entries have it
  by_count :
      {X : Type 0} (c : ℕ) → behind ≡ c → (named ≡ 0 → 20 ≡ c → X) → (1 < named → 22 ≡ c → X)
      → (named ≡ 1 → Cpd.part_number b at ≡ c → X)
      → X
  by_count c e none two one =
      cases (eqb named 0)
      (λ t. none (eqb-true named 0 t) (rw t at e))
      (λ t.
      cases (ltb 1 named)
      (λ u. two (ltb-true 1 named u) (rw (t, u) at e))
      (λ u.
      let k : named ≡ 1 = omega (arith, eqb-false named 0 t, ltb-false 1 named u) in
      one k (rw (t, u) at e)))

  module _ (n : Cpd.is_name name ≡ true) (d : Cpd.directory_number b ≡ 0) where
    entry_named : (i : ℕ) → i < Cpd.count b → has i ≡ true → EntryNamed b name i
    entry_named i l t = record { may_be_sought = name_is name n; of_directory = directory_is b d; an_entry = l; named = has_name_fact i t }

    -- the number behind 14 and the directory's own is the answer
    answer : Cpd.number b name ≡ behind
    unfolding Cpd.number
    answer = simp (n, d)

    answer-none : named ≡ 0 → Cpd.number b name ≡ 20
    answer-none k = answer ∙ rw k

    answer-two : 1 < named → Cpd.number b name ≡ 22
    answer-two k =
        let some : eqb named 0 ≡ false = ne_eqb named 0 (λ q. absurd (omega (arith, k, q))) in
        answer ∙ simp (some, lt-ltb 1 named k)

    answer-one : named ≡ 1 → Cpd.number b name ≡ Cpd.part_number b at
    answer-one k = answer ∙ rw k

    -- one entry has it: the first that has it is the only one
    only-named : named ≡ 1 → OnlyNamed b name at
    unfolding Cpd.entries_named Cpd.first_entry
    only-named k =
        let f = count_some has (Cpd.count b) (λ z. absurd (omega (arith, k, z))) in
        let twice : (i j : ℕ) → i < j → j < Cpd.count b → has i ≡ true → has j ≡ true → ⊥
        = λ i j l m t u. absurd (omega (arith, k, two-count has (Cpd.count b) i j l m t u)) in
        record {
          entry = entry_named at f.0 f.1;
          only = λ j l h.
              cases (ltb j at)
              (λ t. absurd (twice j at (ltb-true j at t) f.0 (name_has j h) f.1))
              (λ t.
              cases (ltb at j)
              (λ u. absurd (twice at j (ltb-true at j u) l f.1 (name_has j h)))
              (λ u. omega (arith, ltb-false j at t, ltb-false at j u)));
        }

  -- the only entry that has it is the first, and one is counted
  module _ (i : ℕ) (x : OnlyNamed b name i) where
    is_name : Cpd.is_name name ≡ true
    is_name = name_passes name x.entry.may_be_sought

    in_directory : Cpd.directory_number b ≡ 0
    in_directory = directory_passes b x.entry.of_directory

    some_named : named ≡ 0 → ⊥
    unfolding Cpd.entries_named
    some_named z = count_zero has (Cpd.count b) z i x.entry.an_entry (name_has i x.entry.named)

    pub first_is : at ≡ i
    unfolding Cpd.first_entry Cpd.entries_named
    first_is =
        let f = count_some has (Cpd.count b) some_named in
        x.only at f.0 (has_name_fact at f.1)

    one-named : named ≡ 1
    unfolding Cpd.entries_named
    one-named =
        cases (ltb 1 named)
        (λ t.
        let f = count-two has (Cpd.count b) (ltb-true 1 named t) in
        let first = x.only _ (omega (arith, f.0, f.1)) (has_name_fact _ f.2) in
        let second = x.only _ f.1 (has_name_fact _ f.3) in
        absurd (omega (arith, f.0, first, second)))
        (λ t. omega (arith, ltb-false 1 named t, some_named))

    only-answer : Cpd.number b name ≡ Cpd.part_number b i
    only-answer = answer-one is_name in_directory one-named ∙ rw first_is

  -- ---- the four answers

  pub found_is : Cpd.number b name ≡ 0 → Found b name
  found_is z =
      let j = judged 0 (λ e. absurd (omega (arith, e))) (λ e. e) z in
      by_count 0 j.answers (λ _ e. absurd (omega (arith, e))) (λ _ e. absurd (omega (arith, e)))
      (λ k e. record {
        i = at;
        alone = only-named j.is_name j.passes k;
        part-there = ltb-false (length b) (part_end b at) (unmet (ltb (length b) (part_end b at)) 21 0 refl e).0;
      })

  pub found_passes : Found b name → Cpd.number b name ≡ 0
  found_passes x = only-answer x.i x.alone ∙ rw (le-ltb (length b) (part_end b x.i) x.part-there)

  pub found-located : (x : Found b name) → Cpd.located b name ≡ located_at 0 false (Cpd.entry_part b (Cpd.entry_start b x.i))
  unfolding Cpd.part
  found-located x = simp (found_passes x, first_is x.i x.alone)

  pub none_is : Cpd.number b name ≡ 20 → NoneNamed b name
  unfolding Cpd.entries_named
  none_is z =
      let j = judged-name 20 (omega arith) z in
      by_count 20 j.answers
      (λ k _. record {
        may_be_sought = name_is name j.is_name;
        of_directory = directory_is b j.passes;
        none = λ i l h. count_zero has (Cpd.count b) k i l (name_has i h);
      })
      (λ _ e. absurd (omega (arith, e)))
      (λ _ e. absurd (part-number 20 e (λ q. absurd (omega (arith, q))) (λ q. absurd (omega (arith, q)))))

  pub none_answers : NoneNamed b name → Cpd.number b name ≡ 20
  unfolding Cpd.entries_named
  none_answers x =
      answer-none (name_passes name x.may_be_sought) (directory_passes b x.of_directory)
      (zero_count has (Cpd.count b) (λ i l t. x.none i l (has_name_fact i t)))

  pub shared_is : Cpd.number b name ≡ 22 → SharedName b name
  unfolding Cpd.entries_named Cpd.first_entry
  shared_is z =
      let j = judged-name 22 (omega arith) z in
      by_count 22 j.answers (λ _ e. absurd (omega (arith, e)))
      (λ k _.
      let f = count-two has (Cpd.count b) k in
      record {
        i = at;
        j = Cpd.first_from has (at + 1) (Cpd.count b - (at + 1));
        apart = omega (arith, f.0);
        entry-i = entry_named j.is_name j.passes at (omega (arith, f.0, f.1)) f.2;
        entry-j = entry_named j.is_name j.passes _ f.1 f.3;
      })
      (λ _ e. absurd (part-number 22 e (λ q. absurd (omega (arith, q))) (λ q. absurd (omega (arith, q)))))

  pub shared-answers : SharedName b name → Cpd.number b name ≡ 22
  unfolding Cpd.entries_named
  shared-answers x =
      let first = name_has x.i x.entry-i.named in
      let other = name_has x.j x.entry-j.named in
      answer-two (name_passes name x.entry-i.may_be_sought) (directory_passes b x.entry-i.of_directory)
      (two-count has (Cpd.count b) x.i x.j x.apart x.entry-j.an_entry first other)

  pub beyond_is : Cpd.number b name ≡ 21 → PartBeyond b name
  beyond_is z =
      let j = judged-name 21 (omega arith) z in
      by_count 21 j.answers (λ _ e. absurd (omega (arith, e))) (λ _ e. absurd (omega (arith, e)))
      (λ k e.
      cases (ltb (length b) (part_end b at))
      (λ t. record { i = at; alone = only-named j.is_name j.passes k; beyond = ltb-true (length b) (part_end b at) t })
      (λ t. let w : 0 ≡ 21 = rw t at e in absurd (omega (arith, w))))

  pub beyond-answers : PartBeyond b name → Cpd.number b name ≡ 21
  beyond-answers x = only-answer x.i x.alone ∙ rw (lt-ltb (length b) (part_end b x.i) x.beyond)

  -- an entry that has the name, by its index
  pub has_is : (i : ℕ) → Cpd.entry_has b name i ≡ true → EntryNamed b name i
  unfolding Cpd.entry_has Cpd.entries_of
  has_is i e =
      let u = both (Cpd.is_name name && ltb i (Cpd.entries_of b).count) (has i) e in
      let v = both (Cpd.is_name name) (ltb i (Cpd.entries_of b).count) u.0 in
      cases (eqb (Cpd.directory_number b) 0)
      (λ t.
      let d : Cpd.directory_number b ≡ 0 = eqb-true (Cpd.directory_number b) 0 t in
      entry_named v.0 d i (ltb-true i (Cpd.count b) (rw (entry-count b d) at v.1)) u.1)
      (λ t. let w : ltb i 0 ≡ true = rw t at v.1 in absurd (omega (arith, ltb-true i 0 w)))

  pub is_has : (i : ℕ) → EntryNamed b name i → Cpd.entry_has b name i ≡ true
  unfolding Cpd.entry_has
  is_has i x =
      simp (
        name_passes name x.may_be_sought,
        entry-count b (directory_passes b x.of_directory),
        lt-ltb i (Cpd.count b) x.an_entry,
        name_has i x.named,
      )
