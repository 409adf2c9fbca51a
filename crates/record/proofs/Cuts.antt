-- A run cut into its messages, one by one: what the first is to the whole. Assumes nothing.
use Prim.Native.Nat.{ℕ, zero, suc, ◌+◌, ◌≤◌}
use mathlib.Core.Path.{◌≡◌, refl, ◌∙◌}
use mathlib.Core.Bool.{true}
use mathlib.Core.List.{List, [], ◌∷◌}
use native.Mathlib.Omega.{arith}
use borrow.Author.Tests.{eqb-true, eqb-false, eq-eqb, ne_eqb, leb-true, leb-false, ltb-false}
use lib.ListN.{length, get_or, drop, length-drop}
use lib.Dec.{eqb, leb, ltb}
use Rattle.message.specs.Header.{total_length}
use Rattle.message.proofs.Tests.{cases, and_l, and_r}
use Rattle.record.specs.Runs.{is_length, judged_by, judged, ends, behind, cut_from, cut}

-- what a whole message says of its numbers
pub record Whole (count direction l header : ℕ) : Type 0 where
  pub direction_in : direction ≤ 1
  pub there : 3 ≤ count
  pub least : 1 ≤ l
  pub most : l ≤ 256
  pub agrees : total_length header ≡ l
  pub long : 2 + l ≤ count
  pub place : (judged_by count direction l header).place ≡ 2 + l

length_in_lem : (l : ℕ) → is_length l ≡ true → (1 ≤ l) × (l ≤ 256)
unfolding is_length
length_in_lem l e = (leb-true 1 l (and_l (leb 1 l) (leb l 256) e), leb-true l 256 (and_r (leb 1 l) (leb l 256) e))

module _ (count direction l header : ℕ) where
  -- one in which nothing is wrong is whole
  pub whole_by : (judged_by count direction l header).fault ≡ 0 → Whole count direction l header
  unfolding judged_by
  whole_by h =
      cases (ltb 1 direction) (λ a. absurd (omega (arith, (rw a at h)))) (λ a.
      cases (leb count 1) (λ b. absurd (omega (arith, (rw (a, b) at h)))) (λ b.
      cases (is_length l) (λ c.
      cases (leb count 2) (λ d. absurd (omega (arith, (rw (a, b, c, d) at h)))) (λ d.
      cases (eqb (total_length header) l) (λ e.
      cases (ltb count (2 + l)) (λ f. absurd (omega (arith, (rw (a, b, c, d, e, f) at h)))) (λ f.
      let i = length_in_lem l c in
      record {
        direction_in = ltb-false 1 direction a;
        there = leb-false count 2 d;
        least = i.0;
        most = i.1;
        agrees = eqb-true (total_length header) l e;
        long = ltb-false count (2 + l) f;
        place = rw (a, b, c, d, e, f);
      })) (λ e. absurd (omega (arith, (rw (a, b, c, d, e) at h))))))
      (λ c. absurd (omega (arith, (rw (a, b, c) at h))))))

  -- what is wrong is at the end at most
  bad_by : ((judged_by count direction l header).fault ≡ 0 → ⊥) → (judged_by count direction l header).place ≤ count
  unfolding judged_by
  bad_by h =
      cases (ltb 1 direction) (λ a. rw a (omega arith)) (λ a.
      cases (leb count 1) (λ b. rw (a, b) (omega arith)) (λ b.
      let y = leb-false count 1 b in
      cases (is_length l) (λ c.
      cases (leb count 2) (λ d. rw (a, b, c, d) (omega arith)) (λ d.
      let z = leb-false count 2 d in
      cases (eqb (total_length header) l) (λ e.
      cases (ltb count (2 + l)) (λ f. rw (a, b, c, d, e, f) (omega arith)) (λ f.
      absurd (h (rw (a, b, c, d, e, f))))) (λ e. rw (a, b, c, d, e) (omega arith)))) (λ c. rw (a, b, c) (omega arith))))

-- the message that starts a run, where it is whole
pub judged-whole :
    (run : List ℕ) → (judged run).fault ≡ 0 → Whole (length run) (get_or run 0 0) (get_or run 1 0) (get_or run 2 0)
judged-whole run h = whole_by (length run) (get_or run 0 0) (get_or run 1 0) (get_or run 2 0) h

-- .. how many dwords it takes
pub judged_place :
    (run : List ℕ) → (judged run).fault ≡ 0
    → (3 ≤ (judged run).place) × ((judged run).place ≤ length run) × ((judged run).place ≤ 258)
judged_place run h = let w = judged-whole run h in omega arith

-- and where it is not
pub judged-bad_place : (run : List ℕ) → ((judged run).fault ≡ 0 → ⊥) → (judged run).place ≤ length run
judged-bad_place run h = bad_by (length run) (get_or run 0 0) (get_or run 1 0) (get_or run 2 0) h

-- no message starts where there is no dword
pub judged_nil : (judged []).fault ≡ 0 → ⊥
judged_nil h = let w = judged-whole [] h in omega arith

-- by whether a whole message starts here
pub split_run : {X : Type 0} (run : List ℕ) → ((judged run).fault ≡ 0 → X) → (((judged run).fault ≡ 0 → ⊥) → X) → X
split_run run x y =
    cases (eqb (judged run).fault 0)
    (λ e. x (eqb-true (judged run).fault 0 e))
    (λ e. y (eqb-false (judged run).fault 0 e))

-- what is behind the first message is shorter
pub shorter_run : (run : List ℕ) → (judged run).fault ≡ 0 → suc (length (drop (judged run).place run)) ≤ length run
shorter_run run h = let s = judged_place run h in omega (arith, length-drop (judged run).place run)

-- as many steps as there are dwords are enough
cut_fuel : (j k : ℕ) (run : List ℕ) → length run ≤ j → length run ≤ k → cut_from j run ≡ cut_from k run
unfolding cut_from
cut_fuel zero zero run g h = refl
cut_fuel zero (suc k) [] g h = refl
cut_fuel zero (suc k) (x ∷ xs) g h = absurd (omega arith)
cut_fuel (suc j) zero [] g h = refl
cut_fuel (suc j) zero (x ∷ xs) g h = absurd (omega arith)
cut_fuel (suc j) (suc k) [] g h = refl
cut_fuel (suc j) (suc k) (x ∷ xs) g h =
    let run = x ∷ xs in
    split_run run
    (λ e.
    let s = shorter_run run e in
    let i = cut_fuel j k (drop (judged run).place run) (omega arith) (omega arith) in
    rw (eq-eqb (judged run).fault 0 e, i))
    (λ e. rw (ne_eqb (judged run).fault 0 e))

cut_step : (m : ℕ) (run : List ℕ) → length run ≤ m → cut run ≡ cut_from m run
unfolding cut
cut_step m run h = cut_fuel (length run) m run (omega arith) h

-- a run, by its first message: there is none
pub cut_nil : cut [] ≡ ends 0 0
unfolding cut cut_from
cut_nil = refl

-- .. a whole one
pub cut-whole :
    (run : List ℕ) → (judged run).fault ≡ 0
    → cut run ≡ behind (judged run).place (cut (drop (judged run).place run))
unfolding cut_from
cut-whole [] h = absurd (judged_nil h)
cut-whole (x ∷ xs) h =
    let run = x ∷ xs in
    let s = shorter_run run h in
    let i = cut_step (length run) (drop (judged run).place run) (omega arith) in
    let j : cut run ≡ behind (judged run).place (cut_from (length run) (drop (judged run).place run)) =
    cut_step (suc (length run)) run (omega arith) ∙ rw (eq-eqb (judged run).fault 0 h) in
    rw i j

-- .. one that is not
pub cut-torn :
    (run : List ℕ) → 1 ≤ length run → ((judged run).fault ≡ 0 → ⊥)
    → cut run ≡ ends (judged run).fault (judged run).place
unfolding cut cut_from
cut-torn [] l h = absurd (omega arith)
cut-torn (x ∷ xs) l h = rw (ne_eqb (judged (x ∷ xs)).fault 0 h)

-- by the messages of a run: none, a torn one, or a whole one in front of the others
pub by_messages :
    (P : List ℕ → Type 0) → P []
    → ((run : List ℕ) → 1 ≤ length run → ((judged run).fault ≡ 0 → ⊥) → P run)
    → ((run : List ℕ) → (judged run).fault ≡ 0 → P (drop (judged run).place run) → P run) → (run : List ℕ) → P run
by_messages P none torn more run = go (length run) run (omega arith)
  where
    go : (m : ℕ) (run : List ℕ) → length run ≤ m → P run
    go zero [] h = none
    go zero (x ∷ xs) h = absurd (omega arith)
    go (suc m) [] h = none
    go (suc m) (x ∷ xs) h =
        split_run (x ∷ xs)
        (λ e.
        let s = shorter_run (x ∷ xs) e in
        more (x ∷ xs) e (go m (drop (judged (x ∷ xs)).place (x ∷ xs)) (omega arith)))
        (λ e. torn (x ∷ xs) (omega arith) e)

-- the whole messages end where the first bad number is, or before it, and that is in the run or at its end
pub cut-within : (run : List ℕ) → ((cut run).dwords ≤ (cut run).bad) × ((cut run).bad ≤ length run)
cut-within =
    by_messages (λ (run : List ℕ). ((cut run).dwords ≤ (cut run).bad) × ((cut run).bad ≤ length run))
    (rw cut_nil (omega arith))
    (λ run l h. let b = judged-bad_place run h in rw (cut-torn run l h) (omega arith))
    (λ run h i.
    let s = judged_place run h in
    let d = length-drop (judged run).place run in
    rw (cut-whole run h) (omega arith))

-- nothing is wrong with a run that is whole to its end
pub cut_all : (run : List ℕ) → (cut run).fault ≡ 0 → (cut run).dwords ≡ length run
cut_all =
    by_messages (λ (run : List ℕ). (cut run).fault ≡ 0 → (cut run).dwords ≡ length run)
    (λ e. rw cut_nil)
    (λ run l h e. absurd (h (rw (cut-torn run l h) at e)))
    (λ run h i e.
    let s = judged_place run h in
    let d = length-drop (judged run).place run in
    let j = i (rw (cut-whole run h) at e) in
    rw (cut-whole run h) (omega arith))

-- and the other way
pub cut-all-back : (run : List ℕ) → (cut run).dwords ≡ length run → (cut run).fault ≡ 0
cut-all-back =
    by_messages (λ (run : List ℕ). (cut run).dwords ≡ length run → (cut run).fault ≡ 0)
    (λ e. rw cut_nil)
    (λ run l h e.
    let z : 0 ≡ length run = rw (cut-torn run l h) at e in
    absurd (omega arith))
    (λ run h i e.
    let s = judged_place run h in
    let d = length-drop (judged run).place run in
    let z : (judged run).place + (cut (drop (judged run).place run)).dwords ≡ length run = rw (cut-whole run h) at e in
    rw (cut-whole run h) (i (omega arith)))
