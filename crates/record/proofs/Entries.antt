-- The messages of a run one by one, and one more. Assumes nothing.
use Prim.Native.Nat.{ℕ, zero, suc, ◌+◌, ◌≤◌}
use mathlib.Core.Path.{◌≡◌, refl, sym, ap, ◌∙◌}
use mathlib.Core.Bool.{cond}
use mathlib.Core.List.{List, [], ◌∷◌, ◌++◌, append_assoc, flatten}
use native.Mathlib.Omega.{arith}
use borrow.Author.Tests.{eqb-true, eq-eqb, ne_eqb, ltb-false}
use lib.ListN.{length, take, drop, length-append, take-append-drop}
use lib.Seq.{take_at, drop_at, take-length, drop-length, drop-drop, length-take-le, take-append_seam}
use lib.Seq.{take-append-le, drop-append-le}
use lib.Dec.{eqb, ltb}
use Rattle.message.proofs.Tests.{cases}
use Rattle.record.specs.Runs.{judged, cut}
use Rattle.record.specs.Calls.{at_front, entry_of, add_number, add_answer, add_leaves}
use Rattle.record.specs.MailedHome.{entries_from, entries}
use Rattle.record.proofs.Cuts.{judged-whole, judged_place, judged_nil, split_run, shorter_run, by_messages}
use Rattle.record.proofs.Cuts.{cut_nil, cut-whole, cut-torn}
use Rattle.record.proofs.Fronts.{judged-take, cut-append}

-- as many steps as there are dwords are enough
entries_fuel : (j k : ℕ) (run : List ℕ) → length run ≤ j → length run ≤ k → entries_from j run ≡ entries_from k run
unfolding entries_from
entries_fuel zero zero run g h = refl
entries_fuel zero (suc k) [] g h = refl
entries_fuel zero (suc k) (x ∷ xs) g h = absurd (omega arith)
entries_fuel (suc j) zero [] g h = refl
entries_fuel (suc j) zero (x ∷ xs) g h = absurd (omega arith)
entries_fuel (suc j) (suc k) [] g h = refl
entries_fuel (suc j) (suc k) (x ∷ xs) g h =
    let run = x ∷ xs in
    split_run run
    (λ e.
    let s = shorter_run run e in
    let i = entries_fuel j k (drop (judged run).place run) (omega arith) (omega arith) in
    ap (λ (l : List (List ℕ)). cond (eqb (judged run).fault 0) (take (judged run).place run ∷ l) []) i)
    (λ e. rw (ne_eqb (judged run).fault 0 e))

entries_step : (m : ℕ) (run : List ℕ) → length run ≤ m → entries run ≡ entries_from m run
unfolding entries
entries_step m run h = entries_fuel (length run) m run (omega arith) h

-- the messages of a run, by the first: there is none
pub entries_nil : entries [] ≡ []
unfolding entries entries_from
entries_nil = refl

-- .. a whole one
pub entries-whole :
    (run : List ℕ) → (judged run).fault ≡ 0
    → entries run ≡ take (judged run).place run ∷ entries (drop (judged run).place run)
unfolding entries_from
entries-whole [] h = absurd (judged_nil h)
entries-whole (x ∷ xs) h =
    let run = x ∷ xs in
    let s = shorter_run run h in
    let i = entries_step (length run) (drop (judged run).place run) (omega arith) in
    let j : entries run ≡ take (judged run).place run ∷ entries_from (length run) (drop (judged run).place run) =
    entries_step (suc (length run)) run (omega arith) ∙ rw (eq-eqb (judged run).fault 0 h) in
    rw i j

-- the messages of a run that is whole are all of it
pub all_entries : (run : List ℕ) → (cut run).fault ≡ 0 → flatten (entries run) ≡ run
unfolding flatten
all_entries =
    by_messages (λ (run : List ℕ). (cut run).fault ≡ 0 → flatten (entries run) ≡ run)
    (λ c. rw entries_nil)
    (λ run l h c. absurd (h (rw (cut-torn run l h) at c)))
    (λ run h i c.
    let p = (judged run).place in
    rw (entries-whole run h, i (rw (cut-whole run h) at c)) (take-append-drop p run))

-- a whole run in front of another
pub entries-append : (xs ys : List ℕ) → (cut xs).fault ≡ 0 → entries (xs ++ ys) ≡ entries xs ++ entries ys
entries-append xs ys =
    by_messages (λ (run : List ℕ). (cut run).fault ≡ 0 → entries (run ++ ys) ≡ entries run ++ entries ys)
    (λ c. rw entries_nil)
    (λ run l h c. absurd (h (rw (cut-torn run l h) at c)))
    (λ run h i c.
    let p = (judged run).place in
    let q = judged_place run h in
    let t : take (length run) (run ++ ys) ≡ run = take-append_seam run ys in
    let e : judged (run ++ ys) ≡ judged run =
    (let j = judged-take (length run) (run ++ ys) in rw t at j) h in
    let w : entries (run ++ ys) ≡ take p (run ++ ys) ∷ entries (drop p (run ++ ys)) =
    rw e at (entries-whole (run ++ ys) (rw e h)) in
    let a : take p (run ++ ys) ≡ take p run = take-append-le p run ys q.1 in
    let b : drop p (run ++ ys) ≡ drop p run ++ ys = drop-append-le p run ys q.1 in
    rw (w, a, b, entries-whole run h, i (rw (cut-whole run h) at c)))
    xs

-- one message by itself
module _ (direction : ℕ) (message : List ℕ) (h : (judged (entry_of direction message)).fault ≡ 0) where
  abbrev one : List ℕ
  one = entry_of direction message

  one_place : (judged one).place ≡ length one
  one_place = omega (arith, (judged-whole one h).place)

  one-cut : (cut one).fault ≡ 0
  one-cut = rw (cut-whole one h, one_place, drop-length one, cut_nil)

  one_entry : entries one ≡ one ∷ []
  one_entry = rw (entries-whole one h, one_place, take-length one, drop-length one, entries_nil)

-- a message that is added
by_add :
    {X : Type 0} (room place direction : ℕ) (message : List ℕ) → add_number room place direction message ≡ 0
    → ((judged (entry_of direction message)).fault ≡ 0 → place + (2 + length message) ≤ room → X) → X
unfolding add_number
by_add room place direction message h x =
    cases (eqb (judged (entry_of direction message)).fault 0)
    (λ e.
    cases (ltb room (place + (2 + length message)))
    (λ f. absurd (omega (arith, (rw (e, f) at h))))
    (λ f.
    x (eqb-true (judged (entry_of direction message)).fault 0 e) (ltb-false room (place + (2 + length message)) f)))
    (λ e. absurd (omega (arith, (rw e at h))))

module _ (run message : List ℕ) (place direction : ℕ) (l : place ≤ length run) (c : (cut (take place run)).fault ≡ 0)
    (j : (judged (entry_of direction message)).fault ≡ 0) (r : place + (2 + length message) ≤ length run) where
  abbrev entry : List ℕ
  entry = entry_of direction message

  abbrev there : List ℕ
  there = take place run ++ at_front entry (drop place run)

  abbrev past : ℕ
  past = place + (2 + length message)

  there-length : length (take place run ++ entry) ≡ past
  there-length = length-append (take place run) entry ∙ omega (arith, length-take-le place run l)

  there_split : there ≡ take place run ++ entry ++ drop (length entry) (drop place run)
  there_split = sym (append_assoc (take place run) entry (drop (length entry) (drop place run)))

  there-front : take past there ≡ take place run ++ entry
  there-front =
      ap (take past) there_split
      ∙ take_at (take place run ++ entry) (drop (length entry) (drop place run)) past there-length

  there-rest : drop past there ≡ drop past run
  there-rest =
      let e : place + length entry ≡ past = omega arith in
      ap (drop past) there_split
      ∙ drop_at (take place run ++ entry) (drop (length entry) (drop place run)) past there-length
      ∙ drop-drop (length entry) place run ∙ ap (λ (k : ℕ). drop k run) e

  there-cut : (cut (take place run ++ entry)).fault ≡ 0
  there-cut = rw (cut-append (take place run) entry c) (one-cut direction message j)

  there-entries : entries (take place run ++ entry) ≡ entries (take place run) ++ (entry ∷ [])
  there-entries =
      entries-append (take place run) entry c
      ∙ ap (λ (x : List (List ℕ)). entries (take place run) ++ x) (one_entry direction message j)

  there-all :
      (take past there ≡ take place run ++ entry)
      × ((cut (take past there)).fault ≡ 0)
      × (entries (take past there) ≡ entries (take place run) ++ (entry ∷ []))
      × (drop past there ≡ drop past run)
  there-all =
      (there-front, rw there-front there-cut, ap entries there-front ∙ there-entries, there-rest)

-- what an addition that is accepted answers and leaves
module _ (run message : List ℕ) (place direction : ℕ) (h : add_number (length run) place direction message ≡ 0) where
  add_place : (add_answer (length run) place direction message).place ≡ place + (2 + length message)
  unfolding add_answer
  add_place = rw h

  add_leaves_fact :
      add_leaves run place direction message
      ≡ take place run ++ at_front (entry_of direction message) (drop place run)
  unfolding add_leaves
  add_leaves_fact = rw h

-- a message that is added makes the run of one message more
pub one_more :
    (run message : List ℕ) (place direction : ℕ) → place ≤ length run → (cut (take place run)).fault ≡ 0
    → add_number (length run) place direction message ≡ 0
    → let next = (add_answer (length run) place direction message).place in
    let after = add_leaves run place direction message in
    (take next after ≡ take place run ++ entry_of direction message)
    × ((cut (take next after)).fault ≡ 0)
    × (entries (take next after) ≡ entries (take place run) ++ (entry_of direction message ∷ []))
    × (drop next after ≡ drop next run)
one_more run message place direction l c h =
    by_add (length run) place direction message h
    (λ j r.
    rw (add_place run message place direction h, add_leaves_fact run message place direction h)
    (there-all run message place direction l c j r))
