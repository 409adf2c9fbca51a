-- The numbers of a record's calls are those of the first row that is given, and a refused one leaves what RecordDemand1 asks.
-- Assumes nothing.
use Prim.Native.Nat.{ℕ, zero, suc, ◌+◌, ◌-◌, ◌≤◌}
use mathlib.Core.Path.{◌≡◌, refl, sym, ap, ◌∙◌}
use mathlib.Core.Bool.{Bool, true, false, not, ◌&&◌, ◌||◌, cond}
use mathlib.Core.List.{List, [], ◌∷◌}
use native.Mathlib.Omega.{arith}
use lib.ListN.{length, get_or, drop, length-drop}
use lib.Dec.{eqb, leb, ltb}
use borrow.Author.Tests.{eq-eqb, le-leb, le-ltb, leb-true, lt-leb, ne_eqb}
use Rattle.message.proofs.Tests.{and_l, and_r, cases}
use Rattle.message.specs.Fields.{num_dwords, field_of}
use Rattle.record.specs.Numbers.{bytes_of_run}
use Rattle.record.specs.Runs.{cut, is_length, judged, judged_by}
use Rattle.record.specs.Files.{intact, whole_of}
use Rattle.record.specs.Calls.{add_answer, add_leaves, add_number, entry_of, read_answer, read_leaves, read_number}
use Rattle.record.specs.Calls.{write_answer, write_leaves, write_number}
use Rattle.record.specs.Calls.{Added}
use Rattle.record.specs.Calls.{Written}
use Rattle.record.specs.Calls.{ReadBack}
use Rattle.record.proofs.Cuts.{Whole, cut_nil, cut-torn, cut-whole, judged-whole, split_run, whole_by}
use Rattle.record.proofs.BothWays.{messages-length}
use Rattle.ring.proofs.Chains.{true_false}
use Rattle.refusals.specs.Order.{Row}
use Rattle.refusals.specs.RecordRows.{add_tests, is_record_in, read_tests, row_29_file, row_29_message, row_29_run}
use Rattle.refusals.specs.RecordRows.{row_30_bytes, row_30_dwords, row_30_place, write_tests}
use Rattle.refusals.specs.RecordLeft.{AddRefused, ReadRefused, WriteRefused}
use Rattle.refusals.proofs.Lowest.{first_judged, first_of}
use Rattle.refusals.proofs.Rows.{below}

-- ---- a message of a run

-- what the rows ask of one: its direction, its L, its header
abbrev fine : ℕ → ℕ → ℕ → Bool
fine direction l header = leb direction 1 && leb 1 l && leb l 256 && eqb (1 + field_of num_dwords header) l

-- it has a dword at least
fine_least : (direction l header : ℕ) → fine direction l header ≡ true → 1 ≤ l
fine_least direction l header e =
    let two : Bool = leb direction 1 && leb 1 l in
    leb-true 1 l (and_r (leb direction 1) (leb 1 l) (and_l two (leb l 256) (and_l (two && leb l 256) _ e)))

module _ (count direction l header : ℕ) where
  -- a message that is whole is such a one
  whole_fine : Whole count direction l header → fine direction l header ≡ true
  whole_fine w =
      rw (
        le-leb direction 1 w.direction_in,
        le-leb 1 l w.least,
        le-leb l 256 w.most,
        eq-eqb (1 + field_of num_dwords header) l w.agrees,
      )

  -- one of which all dwords are there is whole
  fine_whole : fine direction l header ≡ true → 2 + l ≤ count → (judged_by count direction l header).fault ≡ 0
  unfolding judged_by is_length
  fine_whole e there =
      let one : Bool = leb direction 1 in
      let two : Bool = one && leb 1 l in
      let three : Bool = two && leb l 256 in
      let t : three ≡ true = and_l three _ e in
      let u : two ≡ true = and_l two (leb l 256) t in
      let least = fine_least direction l header e in
      rw (
        le-ltb 1 direction (leb-true direction 1 (and_l one (leb 1 l) u)),
        lt-leb count 1 (omega arith),
        le-leb 1 l least,
        and_r two (leb l 256) t,
        lt-leb count 2 (omega arith),
        and_r three _ e,
        le-ltb count (2 + l) there,
      )

-- ---- 29

-- a message of which all dwords are there is judged by the rows' tests
judged_fine :
    (count direction l header : ℕ) → 2 + l ≤ count
    → eqb (judged_by count direction l header).fault 0 ≡ fine direction l header
judged_fine count direction l header there =
    cases (fine direction l header)
    (λ e. eq-eqb _ 0 (fine_whole count direction l header e there) ∙ sym e)
    (λ e.
    ne_eqb (judged_by count direction l header).fault 0
    (λ z. true_false (sym (whole_fine count direction l header (whole_by count direction l header z)) ∙ e))
    ∙ sym e)

not_all : (a b c d : Bool) → (not a || not (b && c) || not d) ≡ not (a && b && c && d)
not_all true true true d = refl
not_all true true false d = refl
not_all true false c d = refl
not_all false b c d = refl

-- of an add
bad-message :
    (direction : ℕ) (m : List ℕ)
    → (row_29_message direction m).given ≡ not (eqb (judged (entry_of direction m)).fault 0)
bad-message direction m =
    let l : ℕ = length m in
    let header : ℕ = get_or m 0 0 in
    let j : eqb (judged (entry_of direction m)).fault 0 ≡ fine direction l header =
    judged_fine (length (entry_of direction m)) direction l header (omega arith) in
    let n = not_all (leb direction 1) (leb 1 l) (leb l 256) (eqb (1 + field_of num_dwords header) l) in
    rw (below 1 direction) (n ∙ ap not (sym j))

-- a run that no message starts
torn-run : (run : List ℕ) → 1 ≤ length run → ((judged run).fault ≡ 0 → ⊥) → eqb (cut run).fault 0 ≡ false
torn-run run l h = rw (cut-torn run l h) (ne_eqb (judged run).fault 0 h)

too_short : (run : List ℕ) → 1 ≤ length run → length run ≤ 2 → eqb (cut run).fault 0 ≡ false
too_short run l h = torn-run run l (λ e. let w = judged-whole run e in omega arith)

-- what is behind a message
behind-header : (l d h : ℕ) (rest : List ℕ) → 1 ≤ l → drop (2 + l) (d ∷ l ∷ h ∷ rest) ≡ drop (l - 1) rest
behind-header zero d h rest e = absurd (omega arith)
behind-header (suc n) d h rest e =
    let y : 2 + suc n ≡ suc (suc (suc n)) = omega arith in
    let z : suc n - 1 ≡ n = omega arith in
    rw (y, z)

-- of a write: a run is a record where nothing is wrong with it
record_run : (k : ℕ) (run : List ℕ) → length run ≤ k → is_record_in k run ≡ eqb (cut run).fault 0
unfolding is_record_in
record_run zero [] h = rw cut_nil
record_run zero (d ∷ xs) h = absurd (omega arith)
record_run (suc k) [] h = rw cut_nil
record_run (suc k) (d ∷ []) h = sym (too_short (d ∷ []) (omega arith) (omega arith))
record_run (suc k) (d ∷ l ∷ []) h = sym (too_short (d ∷ l ∷ []) (omega arith) (omega arith))
record_run (suc k) (d ∷ l ∷ header ∷ rest) h =
    let run : List ℕ = d ∷ l ∷ header ∷ rest in
    let there : Bool = fine d l header && leb (l - 1) (length rest) in
    split_run run
    (λ e.
    let w = judged-whole run e in
    let f : fine d l header ≡ true = whole_fine (length run) d l header w in
    let n : leb (l - 1) (length rest) ≡ true = le-leb (l - 1) (length rest) (omega arith) in
    let q : drop (judged run).place run ≡ drop (l - 1) rest =
    ap (λ (p : ℕ). drop p run) w.place ∙ behind-header l d header rest w.least in
    let c : (cut run).fault ≡ (cut (drop (l - 1) rest)).fault = rw (cut-whole run e, q) in
    let i = record_run k (drop (l - 1) rest) (omega (arith, length-drop (l - 1) rest)) in
    rw (f, n, c) i)
    (λ e.
    cases there
    (λ t.
    let f = and_l (fine d l header) (leb (l - 1) (length rest)) t in
    let n = leb-true (l - 1) (length rest) (and_r (fine d l header) (leb (l - 1) (length rest)) t) in
    let least = fine_least d l header f in
    absurd (e (fine_whole (length run) d l header f (omega arith))))
    (λ t. rw t (sym (torn-run run (omega arith) e))))

-- ---- the calls

-- two tests, one after another
two-judged :
    (r s : Row) → eqb r.number 0 ≡ false → eqb s.number 0 ≡ false
    → cond r.given r.number (cond s.given s.number 0) ≡ first_judged ((r ∷ []) ∷ (s ∷ []) ∷ [])
unfolding first_of first_judged
two-judged r s n m =
    cases r.given (λ t. rw (t, n)) (λ t. cases s.given (λ u. rw (t, u, m)) (λ u. rw (t, u)))

either_way : (t : Bool) (a b : ℕ) → cond t a b ≡ cond (not t) b a
either_way true a b = refl
either_way false a b = refl

module _ (run : List ℕ) (place direction : ℕ) (m : List ℕ) where
  abbrev added : Added
  added = add_answer (length run) place direction m

  pub add_number_fact : added.code ≡ first_judged (add_tests run place direction m)
  unfolding add_answer add_number
  add_number_fact =
      rw (← bad-message direction m) (two-judged (row_29_message direction m) (row_30_place run place m) refl refl)

  pub add_refused : (added.code ≡ 0 → ⊥) → AddRefused run place added (add_leaves run place direction m)
  unfolding add_answer add_leaves
  add_refused z =
      let n : eqb (add_number (length run) place direction m) 0 ≡ false = ne_eqb added.code 0 z in
      record { run-stays = rw n; same_place = rw n }

module _ (run out : List ℕ) where
  abbrev written : Written
  written = write_answer run (length out)

  write_code : written.code ≡ write_number run (length out)
  unfolding write_answer write_number
  write_code =
      cases (eqb (cut run).fault 0)
      (λ e. cases (ltb (length out) (length (bytes_of_run run))) (λ f. rw (e, f)) (λ f. rw (e, f)))
      (λ e. rw e)

  pub write_number_fact : written.code ≡ first_judged (write_tests run out)
  unfolding write_number
  write_number_fact =
      write_code
      ∙ rw (← record_run (length run) run (omega arith)) (two-judged (row_29_run run) (row_30_bytes run out) refl refl)

  pub write_refused : (written.code ≡ 0 → ⊥) → WriteRefused out written (write_leaves run out)
  unfolding write_answer write_leaves
  write_refused z =
      let c : ℕ = write_number run (length out) in
      record {
        unwritten = rw (ne_eqb c 0 (λ e. z (write_code ∙ e)));
        no_bytes =
            cases (eqb c 29) (λ a. rw a) (λ a. cases (eqb c 30) (λ b. rw (a, b)) (λ b. absurd (z (rw (a, b)))));
      }

module _ (file out : List ℕ) where
  abbrev back : ReadBack
  back = read_answer file (length out)

  read_code : back.code ≡ read_number file (length out)
  unfolding read_answer read_number
  read_code =
      cases (ltb (length out) (whole_of file))
      (λ e. rw e)
      (λ e. cases (intact file) (λ f. rw (e, f)) (λ f. rw (e, f)))

  pub read_number_lem : back.code ≡ first_judged (read_tests file out)
  unfolding read_number
  read_number_lem =
      read_code
      ∙ rw (either_way (intact file) 0 29) (two-judged (row_30_dwords file out) (row_29_file file) refl refl)

  pub read_refused : ReadRefused file out back (read_leaves file out)
  unfolding read_answer read_leaves
  read_refused =
      record {
        at_30 = λ e. let n : read_number file (length out) ≡ 30 = sym read_code ∙ e in (rw n, rw n, rw n);
        at_29 =
            λ e.
            let n : read_number file (length out) ≡ 29 = sym read_code ∙ e in
            (rw n, rw n (sym (messages-length file)));
      }
