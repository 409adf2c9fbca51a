-- A file read piece by piece: what is behind the whole messages of a front. Assumes nothing.
use Prim.Native.Nat.{ℕ, zero, suc, ◌+◌, ◌-◌, ◌≤◌, min}
use mathlib.Core.Path.{◌≡◌, refl, sym, ap, ◌∙◌}
use mathlib.Core.List.{List, [], ◌∷◌, ◌++◌}
use native.Mathlib.Omega.{arith}
use borrow.Author.Tests.{eqb-true, eqb-false, eq-eqb, ne_eqb, ltb-true, ltb-false, lt-ltb, le-ltb}
use lib.ListN.{length, take, drop, length-take, length-drop}
use lib.Seq.{take-add, take-take, drop-drop}
use lib.Dec.{eqb, ltb}
use Rattle.message.proofs.Tests.{cases}
use Rattle.record.specs.Numbers.{form_of, number_of}
use Rattle.record.specs.Runs.{behind, cut}
use Rattle.record.specs.Files.{run_of, start_of, whole_of, took_of, messages_of, intact, bad_of, fault_of}
use Rattle.record.specs.MailedHome.{pieces}
use Rattle.record.proofs.Forms.{led-good, split, shorter, run-good, run-bad}
use Rattle.record.proofs.Forms.{start_zero, start_suc, start_add, start-within, run_drop}
use Rattle.record.proofs.Cuts.{cut-within}
use Rattle.record.proofs.Fronts.{drop-take, cut-after}

-- a good number in a front of the file is one of the file
form_take : (m k : ℕ) (f : List ℕ) → (form_of m (take k f)).fault ≡ 0 → form_of m (take k f) ≡ form_of m f
unfolding form_of
form_take m zero f h = absurd (omega arith)
form_take m (suc k) [] h = absurd (omega arith)
form_take zero (suc k) (b ∷ bs) h = refl
form_take (suc m) (suc k) (b ∷ bs) h =
    cases (ltb b 128)
    (λ e. rw e)
    (λ e.
    let l = led-good b (form_of m (take k bs)) (rw e at h) in
    rw (e, form_take m k bs l.0))

-- .. the first of it
pub number-take : (k : ℕ) (f : List ℕ) → (number_of (take k f)).fault ≡ 0 → number_of (take k f) ≡ number_of f
unfolding number_of
number-take zero f h = absurd (omega arith)
number-take (suc k) [] h = absurd (omega arith)
number-take (suc k) (b ∷ bs) h = form_take 4 (suc k) (b ∷ bs) h

-- by the numbers of a file: none, or one in front of the others
pub by_numbers :
    (P : List ℕ → Type 0) → ((f : List ℕ) → ((number_of f).fault ≡ 0 → ⊥) → P f)
    → ((f : List ℕ) → (number_of f).fault ≡ 0 → P (drop (number_of f).size f) → P f) → (f : List ℕ) → P f
by_numbers P none more f = go (length f) f (omega arith)
  where
    go : (m : ℕ) (f : List ℕ) → length f ≤ m → P f
    go zero f h = none f (λ e. omega (arith, shorter f e))
    go (suc m) f h =
        split f
        (λ e. let s = shorter f e in more f e (go m (drop (number_of f).size f) (omega arith)))
        (λ e. none f e)

-- a front of a file that has its first number
module _ (k : ℕ) (f : List ℕ) (h : (number_of (take k f)).fault ≡ 0) where
  front-good : (number_of f).fault ≡ 0
  front-good = rw (number-take k f h) at h

  front_rest : drop (number_of (take k f)).size (take k f) ≡ take (k - (number_of f).size) (drop (number_of f).size f)
  front_rest = rw (number-take k f h) (drop-take (number_of f).size k f)

  front-run : run_of (take k f) ≡ (number_of f).value ∷ run_of (take (k - (number_of f).size) (drop (number_of f).size f))
  front-run =
      run-good (take k f) h
      ∙ ap (λ (l : List ℕ). (number_of (take k f)).value ∷ run_of l) front_rest
      ∙ ap (λ n. n.value ∷ run_of (take (k - (number_of f).size) (drop (number_of f).size f))) (number-take k f h)

  front-start :
      (j : ℕ)
      → start_of (take k f) (suc j)
      ≡ (number_of f).size + start_of (take (k - (number_of f).size) (drop (number_of f).size f)) j
  front-start j =
      start_suc (take k f) j h
      ∙ ap (λ (l : List ℕ). (number_of (take k f)).size + start_of l j) front_rest
      ∙ ap (λ n. n.size + start_of (take (k - (number_of f).size) (drop (number_of f).size f)) j) (number-take k f h)

-- the run of a front is a front of the run
pub run_take : (f : List ℕ) (k : ℕ) → run_of (take k f) ≡ take (length (run_of (take k f))) (run_of f)
run_take =
    by_numbers (λ (f : List ℕ). (k : ℕ) → run_of (take k f) ≡ take (length (run_of (take k f))) (run_of f))
    (λ f h k. rw (run-bad (take k f) (λ e. h (front-good k f e))))
    (λ f h i k.
    split (take k f)
    (λ e.
    let r = front-run k f e in
    let j = i (k - (number_of f).size) in
    rw (r, run-good f h) (ap (λ (l : List ℕ). (number_of f).value ∷ l) j))
    (λ e. rw (run-bad (take k f) e)))

-- and its numbers start where those of the file do
pub start-take :
    (j : ℕ) (f : List ℕ) (k : ℕ) → j ≤ length (run_of (take k f)) → start_of (take k f) j ≡ start_of f j
start-take zero f k l = start_zero (take k f) ∙ sym (start_zero f)
start-take (suc j) f k l =
    split (take k f)
    (λ e.
    let g = take (k - (number_of f).size) (drop (number_of f).size f) in
    let r : length (run_of (take k f)) ≡ suc (length (run_of g)) = ap length (front-run k f e) in
    let i = start-take j (drop (number_of f).size f) (k - (number_of f).size) (omega arith) in
    rw (front-start k f e j, start_suc f j (front-good k f e), i))
    (λ e.
    let r : length (run_of (take k f)) ≡ 0 = ap length (run-bad (take k f) e) in
    absurd (omega arith))

-- tests of places so many later
ltb_later : (d b m n : ℕ) → n ≡ d + m → ltb (d + b) n ≡ ltb b m
ltb_later d b m n e =
    cases (ltb b m)
    (λ f. let l = ltb-true b m f in rw f (lt-ltb (d + b) n (omega arith)))
    (λ f. let l = ltb-false b m f in rw f (le-ltb (d + b) n (omega arith)))

-- .. whether they are the same
pub eqb_later : (d b m n : ℕ) → n ≡ d + m → eqb (d + b) n ≡ eqb b m
eqb_later d b m n e =
    cases (eqb b m)
    (λ f. let l = eqb-true b m f in rw f (eq-eqb (d + b) n (omega arith)))
    (λ f. let l = eqb-false b m f in rw f (ne_eqb (d + b) n (λ g. l (omega arith))))

-- a file behind its first d numbers, which are whole messages
module _ (file : List ℕ) (d : ℕ) (l : d ≤ length (run_of file))
    (c : cut (run_of file) ≡ behind d (cut (drop d (run_of file)))) where
  abbrev rest : List ℕ
  rest = drop (start_of file d) file

  rest-run : run_of rest ≡ drop d (run_of file)
  rest-run = run_drop file d l

  rest-cut : cut (run_of file) ≡ behind d (cut (run_of rest))
  rest-cut = c ∙ ap (λ (r : List ℕ). behind d (cut r)) (sym rest-run)

  rest-whole : whole_of file ≡ d + whole_of rest
  rest-whole = ap (λ x. x.dwords) rest-cut

  rest_took : took_of file ≡ start_of file d + took_of rest
  rest_took = ap (start_of file) rest-whole ∙ start_add file d (whole_of rest)

  rest-bad : bad_of file ≡ start_of file d + bad_of rest
  unfolding bad_of
  rest-bad = ap (λ x. start_of file x.bad) rest-cut ∙ start_add file d (cut (run_of rest)).bad

  rest-intact : intact file ≡ intact rest
  rest-intact =
      let w = start-within file d in
      let m = length-drop (start_of file d) file in
      ap (λ (x : ℕ). eqb x (length file)) rest_took
      ∙ eqb_later (start_of file d) (took_of rest) (length rest) (length file) (omega arith)

  rest-fault : fault_of file ≡ fault_of rest
  unfolding fault_of
  rest-fault =
      let r = run_of rest in
      let m : length r ≡ length (run_of file) - d = ap length rest-run ∙ length-drop d (run_of file) in
      let e : ltb (cut (run_of file)).bad (length (run_of file)) ≡ ltb (cut r).bad (length r) =
      ap (λ x. ltb x.bad (length (run_of file))) rest-cut
      ∙ ltb_later d (cut r).bad (length r) (length (run_of file)) (omega arith) in
      let f : (cut (run_of file)).fault ≡ (cut r).fault = ap (λ x. x.fault) rest-cut in
      let n : drop (bad_of file) file ≡ drop (bad_of rest) rest =
      ap (λ (k : ℕ). drop k file) rest-bad ∙ sym (drop-drop (bad_of rest) (start_of file d) file) in
      rw (e, f, n)

  rest-messages : messages_of file ≡ take d (run_of file) ++ messages_of rest
  unfolding messages_of
  rest-messages =
      ap (λ (k : ℕ). take k (run_of file)) rest-whole ∙ take-add d (whole_of rest) (run_of file)
      ∙ ap (λ (x : List ℕ). take d (run_of file) ++ take (whole_of rest) x) (sym rest-run)

-- a front of the file
module _ (k : ℕ) (file : List ℕ) where
  abbrev front : List ℕ
  front = take k file

  whole-front : whole_of front ≤ length (run_of front)
  whole-front = let w = cut-within (run_of front) in omega arith

  whole-within : whole_of front ≤ length (run_of file)
  whole-within =
      let w = whole-front in
      let e : length (run_of front) ≡ min (length (run_of front)) (length (run_of file)) =
      ap length (run_take file k) ∙ length-take (length (run_of front)) (run_of file) in
      omega arith

  front_took : took_of front ≡ start_of file (whole_of front)
  front_took = start-take (whole_of front) file k whole-front

  front_cut : cut (run_of file) ≡ behind (whole_of front) (cut (drop (whole_of front) (run_of file)))
  front_cut =
      let e = cut-after (run_of file) (length (run_of front)) in
      rw (← run_take file k) at e

  front-messages : messages_of front ≡ take (whole_of front) (run_of file)
  unfolding messages_of
  front-messages =
      ap (take (whole_of front)) (run_take file k)
      ∙ take-take (whole_of front) (length (run_of front)) (run_of file) whole-front

  -- the messages of the front, and those of the rest
  pub piece : messages_of file ≡ messages_of front ++ messages_of (drop (took_of front) file)
  piece =
      rest-messages file (whole_of front) whole-within front_cut
      ∙ ap (λ (l : List ℕ). l ++ messages_of (drop (start_of file (whole_of front)) file)) (sym front-messages)
      ∙ ap (λ (n : ℕ). messages_of front ++ messages_of (drop n file)) (sym front_took)

  -- what is wrong with the file is what is wrong with the rest
  pub last_piece :
      let took = took_of (take k file) in
      (took_of file ≡ took + took_of (drop took file))
      × (bad_of file ≡ took + bad_of (drop took file))
      × (intact file ≡ intact (drop took file))
      × (fault_of file ≡ fault_of (drop took file))
  last_piece =
      let d = whole_of front in
      rw front_took (
        rest_took file d whole-within front_cut,
        rest-bad file d whole-within front_cut,
        rest-intact file d whole-within front_cut,
        rest-fault file d whole-within front_cut,
      )

-- the pieces' messages, joined, are the whole file's
pub in_pieces : (ks file : List ℕ) → pieces ks file ≡ messages_of file
unfolding pieces
in_pieces [] file = refl
in_pieces (k ∷ ks) file =
    ap (λ (l : List ℕ). messages_of (take k file) ++ l) (in_pieces ks (drop (took_of (take k file)) file))
    ∙ sym (piece k file)
