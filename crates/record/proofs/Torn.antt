-- A written file cut anywhere: the numbers and the messages before the cut, and what is wrong behind them. Assumes
-- nothing.
use Prim.Native.Nat.{ℕ, zero, suc, ◌+◌, ◌-◌, ◌/◌, ◌%◌, ◌≤◌, ◌<◌, ◌^◌}
use mathlib.Core.Path.{◌≡◌, refl, sym, ap, ◌∙◌}
use mathlib.Core.Bool.{cond}
use mathlib.Core.List.{List, [], ◌∷◌, ◌++◌, append_assoc, flat_map, flatten}
use native.Mathlib.Omega.{arith}
use native.Mathlib.Nat.{sub-zero}
use borrow.Author.Tests.{eq-eqb, ne_eqb, leb-true, leb-false, le-leb, le-ltb}
use lib.ListN.{length, take, drop, length-append, length-take}
use lib.Seq.{take-add, take-append-le, take-append-add, length-take-le}
use lib.Seq.{take-nil}
use lib.Dec.{eqb, leb, ltb}
use Rattle.message.proofs.Tests.{cases}
use Rattle.record.specs.Faults.{unfinished, missing}
use Rattle.record.specs.Numbers.{groups, bytes_of, bytes_of_run, led, form_of, number_of}
use Rattle.record.specs.Runs.{judged, cut}
use Rattle.record.specs.Numbers.{Form}
use Rattle.record.specs.MailedHome.{Dwords, entries, before, numbers_before}
use Rattle.record.proofs.Shortest.{number_form}
use Rattle.record.proofs.Cuts.{judged_place, by_messages, cut_nil, cut-whole, cut-torn}
use Rattle.record.proofs.Fronts.{judged-take, judged-front, cut-none, cut-append, front-whole}
use Rattle.record.proofs.Pieces.{eqb_later}
use Rattle.record.proofs.Entries.{entries_nil, entries-whole}

-- ---- a number of which the end is missing

led-unfinished : (b : ℕ) (o : Form) → o.fault ≡ unfinished → (led b o).fault ≡ unfinished
unfolding led
led-unfinished b o h = rw (ne_eqb o.fault 0 (λ e. omega arith)) h

form_torn : (k n j : ℕ) → j < length (groups k n) → (form_of k (take j (groups k n))).fault ≡ unfinished
unfolding groups form_of
form_torn k n zero h = refl
form_torn zero n (suc j) h = absurd (omega arith)
form_torn (suc k) n (suc j) h =
    cases (ltb n 128)
    (λ e. let g : suc j < 1 = rw e at h in absurd (omega arith))
    (λ e.
    let g : suc j < suc (length (groups k (n / 128))) = rw e at h in
    rw (e, le-ltb (n % 128 + 128) 128 (omega arith))
    (led-unfinished (n % 128 + 128) (form_of k (take j (groups k (n / 128)))) (form_torn k (n / 128) j (omega arith))))

number-torn : (n j : ℕ) → 1 ≤ j → j < length (bytes_of n) → (number_of (take j (bytes_of n))).fault ≡ unfinished
unfolding bytes_of
number-torn n j l h =
    let m : length (take j (groups 4 n)) ≡ j = length-take-le j (groups 4 n) (omega arith) in
    rw (number_form (take j (groups 4 n)) (omega arith)) (form_torn 4 n j h)

-- ---- the numbers before the cut, and the bytes behind them

-- the bytes of the number that the cut tears
abbrev pub torn_bytes : ℕ → List ℕ → List ℕ
torn_bytes k [] = []
torn_bytes k (x ∷ xs) = cond (leb (length (bytes_of x)) k) (torn_bytes (k - length (bytes_of x)) xs) (take k (bytes_of x))

-- the file that is cut: the bytes of the numbers before the cut, and those
pub cut-bytes : (run : List ℕ) (k : ℕ) → take k (bytes_of_run run) ≡ bytes_of_run (numbers_before k run) ++ torn_bytes k run
unfolding flat_map numbers_before
cut-bytes [] k = take-nil k
cut-bytes (x ∷ xs) k =
    let b = bytes_of x in
    cases (leb (length b) k)
    (λ e.
    let l = leb-true (length b) k e in
    let j = k - length b in
    let f : k ≡ length b + j = omega arith in
    let t : take k (b ++ bytes_of_run xs) ≡ b ++ bytes_of_run (numbers_before j xs) ++ torn_bytes j xs =
    ap (λ (m : ℕ). take m (b ++ bytes_of_run xs)) f ∙ take-append-add b (bytes_of_run xs) j
    ∙ ap (λ (r : List ℕ). b ++ r) (cut-bytes xs j)
    ∙ sym (append_assoc b (bytes_of_run (numbers_before j xs)) (torn_bytes j xs)) in
    rw e t)
    (λ e.
    let l = leb-false (length b) k e in
    rw e (take-append-le k b (bytes_of_run xs) (omega arith)))

-- what is wrong with those bytes: none are there, or the number is unfinished
abbrev pub behind_fault : ℕ → ℕ → ℕ
behind_fault torn k = cond (eqb torn k) missing unfinished

first-torn : (x k : ℕ) → k < length (bytes_of x) → (number_of (take k (bytes_of x))).fault ≡ behind_fault 0 k
unfolding number_of
first-torn x zero h = refl
first-torn x (suc k) h = rw (ne_eqb 0 (suc k) (λ e. omega arith)) (number-torn x (suc k) (omega arith) h)

-- .. of the run's
pub torn-fault :
    (run : List ℕ) (k : ℕ) → k ≤ length (bytes_of_run run)
    → (number_of (torn_bytes k run)).fault ≡ behind_fault (length (bytes_of_run (numbers_before k run))) k
unfolding flat_map numbers_before number_of
torn-fault [] k h = rw (eq-eqb 0 k (omega arith))
torn-fault (x ∷ xs) k h =
    let b = bytes_of x in
    let m : length (b ++ bytes_of_run xs) ≡ length b + length (bytes_of_run xs) = length-append b (bytes_of_run xs) in
    cases (leb (length b) k)
    (λ e.
    let l = leb-true (length b) k e in
    let j = k - length b in
    let t = length (bytes_of_run (numbers_before j xs)) in
    let q : eqb (length b + t) k ≡ eqb t j = eqb_later (length b) t j k (omega arith) in
    rw (e, length-append, q) (torn-fault xs j (omega arith)))
    (λ e. rw e (first-torn x k (leb-false (length b) k e)))

-- .. something
pub behind_some : (t k : ℕ) → behind_fault t k ≡ 0 → ⊥
behind_some t k h = cases (eqb t k) (λ e. omega (arith, (rw e at h))) (λ e. omega (arith, (rw e at h)))

-- the numbers before the cut are a front of the run
pub before-front : (run : List ℕ) (k : ℕ) → numbers_before k run ≡ take (length (numbers_before k run)) run
unfolding numbers_before
before-front [] k = refl
before-front (x ∷ xs) k =
    let i = before-front xs (k - length (bytes_of x)) in
    cases (leb (length (bytes_of x)) k) (λ e. rw e (ap (λ (l : List ℕ). x ∷ l) i)) (λ e. rw e)

-- .. of at most its length
pub before-within : (run : List ℕ) (k : ℕ) → length (numbers_before k run) ≤ length run
before-within run k =
    omega (arith, ap length (before-front run k), length-take (length (numbers_before k run)) run)

-- .. and dwords
pub before-dwords : (run : List ℕ) (k : ℕ) → Dwords run → Dwords (numbers_before k run)
unfolding numbers_before
before-dwords [] k d = d
before-dwords (x ∷ xs) k d =
    let j = before-dwords xs (k - length (bytes_of x)) (λ i. d (suc i)) in
    cases (leb (length (bytes_of x)) k)
    (λ e. rw e (first-dword x (numbers_before (k - length (bytes_of x)) xs) (d 0) j))
    (λ e. rw e (λ i. omega arith))
  where
    first-dword : (x : ℕ) (xs : List ℕ) → x < 2 ^ 32 → Dwords xs → Dwords (x ∷ xs)
    first-dword x xs l d zero = l
    first-dword x xs l d (suc i) = d i

-- some numbers of the run that end before the cut, and some that do not
before_more :
    (p : ℕ) (run : List ℕ) (k : ℕ) → length (bytes_of_run (take p run)) ≤ k
    → numbers_before k run ≡ take p run ++ numbers_before (k - length (bytes_of_run (take p run))) (drop p run)
unfolding flat_map numbers_before
before_more zero run k h = rw sub-zero
before_more (suc p) [] k h = refl
before_more (suc p) (x ∷ xs) k h =
    let b = length (bytes_of x) in
    let c = length (bytes_of_run (take p xs)) in
    let m : length (bytes_of x ++ bytes_of_run (take p xs)) ≡ b + c = length-append (bytes_of x) (bytes_of_run (take p xs)) in
    let e : k - b - c ≡ k - (b + c) = omega arith in
    let i = before_more p xs (k - b) (omega arith) in
    rw (le-leb b k (omega arith), m, ← e) (ap (λ (l : List ℕ). x ∷ l) i)

before_fewer :
    (p : ℕ) (run : List ℕ) (k : ℕ) → k < length (bytes_of_run (take p run)) → length (numbers_before k run) < p
unfolding flat_map numbers_before
before_fewer zero run k h = absurd (omega arith)
before_fewer (suc p) [] k h = absurd (omega arith)
before_fewer (suc p) (x ∷ xs) k h =
    let b = length (bytes_of x) in
    let c = length (bytes_of_run (take p xs)) in
    let m : length (bytes_of x ++ bytes_of_run (take p xs)) ≡ b + c = length-append (bytes_of x) (bytes_of_run (take p xs)) in
    cases (leb b k)
    (λ e.
    let l = leb-true b k e in
    let i = before_fewer p xs (k - b) (omega arith) in
    rw e (omega arith))
    (λ e. rw e (omega arith))

-- ---- the messages before the cut

-- where the first is not
none_before :
    (run : List ℕ) (k : ℕ) → (judged run).fault ≡ 0 → k < length (bytes_of_run (take (judged run).place run))
    → (cut (numbers_before k run)).dwords ≡ 0
none_before run k h l =
    let ns = numbers_before k run in
    let f = before_fewer (judged run).place run k l in
    cut-none ns (λ e.
    let q = judged_place ns e in
    let j : judged run ≡ judged ns =
    (let t = judged-take (length ns) run in rw (← before-front run k) at t) e in
    let p : (judged run).place ≡ (judged ns).place = ap (λ x. x.place) j in
    omega arith)

-- where it is
more_before :
    (run : List ℕ) (k : ℕ) → (judged run).fault ≡ 0 → length (bytes_of_run (take (judged run).place run)) ≤ k
    → (cut (numbers_before k run)).dwords
    ≡ (judged run).place
    + (cut
    (numbers_before (k - length (bytes_of_run (take (judged run).place run))) (drop (judged run).place run))).dwords
more_before run k h l =
    let p = (judged run).place in
    let m = take p run in
    let q = judged_place run h in
    let z : p - p ≡ 0 = omega arith in
    let c : (cut m).fault ≡ 0 = rw (front-whole p run (judged-front p run h (omega arith)) h, z, cut_nil) in
    let n : length m ≡ p = length-take-le p run q.1 in
    let a = cut-append m (numbers_before (k - length (bytes_of_run m)) (drop p run)) c in
    rw (before_more p run k l, a, n)

-- those before the cut are the whole messages of the numbers before it
pub laid-before :
    (run : List ℕ) (k : ℕ) → (cut run).fault ≡ 0
    → flatten (before k (entries run)) ≡ take (cut (numbers_before k run)).dwords run
unfolding before flatten
laid-before =
    by_messages
    (λ (run : List ℕ). (k : ℕ) → (cut run).fault ≡ 0
    → flatten (before k (entries run)) ≡ take (cut (numbers_before k run)).dwords run)
    (λ k c. rw entries_nil (sym (take-nil (cut (numbers_before k [])).dwords)))
    (λ run l h k c. absurd (h (rw (cut-torn run l h) at c)))
    (λ run h i k c.
    let p = (judged run).place in
    let b = length (bytes_of_run (take p run)) in
    let d : (cut (drop p run)).fault ≡ 0 = rw (cut-whole run h) at c in
    cases (leb b k)
    (λ e. rw (entries-whole run h, e, more_before run k h (leb-true b k e), i (k - b) d, take-add))
    (λ e. rw (entries-whole run h, e, none_before run k h (leb-false b k e))))
