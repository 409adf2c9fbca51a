-- A piece as long as the longest message has the same first message as its file, whole or torn. Assumes nothing.
use Prim.Native.Nat.{ℕ, zero, suc, ◌+◌, ◌-◌, ◌*◌, ◌≤◌, ◌<◌, min}
use mathlib.Core.Path.{◌≡◌, refl, sym, ap, ◌∙◌}
use mathlib.Core.Bool.{false}
use mathlib.Core.List.{List, [], ◌∷◌}
use native.Mathlib.Omega.{arith}
use borrow.Author.Tests.{ne_eqb, ltb-false}
use lib.ListN.{length, take, drop, length-take}
use lib.Dec.{ltb}
use Rattle.message.proofs.Tests.{cases}
use Rattle.record.specs.Numbers.{form_of, number_of}
use Rattle.record.specs.Runs.{is_length}
use Rattle.record.specs.Files.{run_of, whole_of, took_of, intact, bad_of, fault_of}
use Rattle.record.specs.Private.{numbers_of, dwords_of, length_of, message_of}
use Rattle.record.proofs.Forms.{led-good, number_size, split, start_least}
use Rattle.record.proofs.Cuts.{cut-within}
use Rattle.record.proofs.Fronts.{drop-take}
use Rattle.record.proofs.Judging.{length_bounds}
use Rattle.record.proofs.Bridge.{message-torn, message-whole}
use Rattle.record.proofs.Cursor.{cursor_start, whole_least, whole-size, whole_cursor}
use Rattle.record.proofs.Cursor.{torn_took, torn-intact, torn-bad, torn-fault}

-- ---- a number is decided by its first five bytes

form_same : (m k : ℕ) (f : List ℕ) → suc m ≤ k → form_of m (take k f) ≡ form_of m f
unfolding form_of
form_same m zero f h = absurd (omega arith)
form_same m (suc k) [] h = refl
form_same zero (suc k) (b ∷ bs) h = refl
form_same (suc m) (suc k) (b ∷ bs) h = rw (form_same m k bs (omega arith))

number_same : (k : ℕ) (f : List ℕ) → 5 ≤ k → number_of (take k f) ≡ number_of f
unfolding number_of
number_same zero f h = absurd (omega arith)
number_same (suc k) [] h = refl
number_same (suc k) (b ∷ bs) h = form_same 4 (suc k) (b ∷ bs) h

-- what is behind it
rest_same :
    (k : ℕ) (f : List ℕ) → 5 ≤ k
    → drop (number_of (take k f)).size (take k f) ≡ take (k - (number_of f).size) (drop (number_of f).size f)
rest_same k f h = rw (number_same k f h) (drop-take (number_of f).size k f)

-- ---- the bytes of a small number: a good form of more than one byte is at least 128, of more than two 16,384

form_one : (k : ℕ) (f : List ℕ) → (form_of k f).fault ≡ 0 → (form_of k f).value < 128 → (form_of k f).size ≤ 1
unfolding form_of
form_one k [] h v = absurd (omega arith)
form_one zero (b ∷ bs) h v =
    cases (ltb b 16) (λ e. rw e (omega arith)) (λ e. absurd (omega (arith, (rw e at h))))
form_one (suc k) (b ∷ bs) h v =
    cases (ltb b 128)
    (λ e. rw e (omega arith))
    (λ e.
    let l = led-good b (form_of k bs) (rw e at h) in
    absurd (omega (arith, l.1, (rw (e, l.2) at v))))

form_two : (k : ℕ) (f : List ℕ) → (form_of k f).fault ≡ 0 → (form_of k f).value < 16384 → (form_of k f).size ≤ 2
unfolding form_of
form_two k [] h v = absurd (omega arith)
form_two zero (b ∷ bs) h v =
    cases (ltb b 16) (λ e. rw e (omega arith)) (λ e. absurd (omega (arith, (rw e at h))))
form_two (suc k) (b ∷ bs) h v =
    cases (ltb b 128)
    (λ e. rw e (omega arith))
    (λ e.
    let l = led-good b (form_of k bs) (rw e at h) in
    let i = form_one k bs l.0 (omega (arith, (rw (e, l.2) at v))) in
    rw (e, l.2) (omega arith))

number-one : (f : List ℕ) → (number_of f).fault ≡ 0 → (number_of f).value < 128 → (number_of f).size ≤ 1
unfolding number_of
number-one [] h v = absurd (omega arith)
number-one (b ∷ bs) h v = form_one 4 (b ∷ bs) h v

number-two : (f : List ℕ) → (number_of f).fault ≡ 0 → (number_of f).value < 16384 → (number_of f).size ≤ 2
unfolding number_of
number-two [] h v = absurd (omega arith)
number-two (b ∷ bs) h v = form_two 4 (b ∷ bs) h v

-- ---- the parts of a message, each in so many bytes as it takes at most

numbers_same : (n k : ℕ) (f : List ℕ) → 5 * n ≤ k → numbers_of n (take k f) ≡ numbers_of n f
unfolding numbers_of
numbers_same zero k f h = refl
numbers_same (suc n) k f h =
    split f
    (λ e.
    let s = number_size f e in
    let i = numbers_same n (k - (number_of f).size) (drop (number_of f).size f) (omega arith) in
    rw (rest_same k f (omega arith), number_same k f (omega arith), i))
    (λ e. rw (number_same k f (omega arith), ne_eqb (number_of f).fault 0 e))

dwords_same : (l k : ℕ) (f : List ℕ) → 1 ≤ l → 5 * l ≤ k → dwords_of l (take k f) ≡ dwords_of l f
unfolding dwords_of
dwords_same l k f g h =
    split f
    (λ e.
    let s = number_size f e in
    let i = numbers_same (l - 1) (k - (number_of f).size) (drop (number_of f).size f) (omega arith) in
    rw (rest_same k f (omega arith), number_same k f (omega arith), i))
    (λ e. rw (number_same k f (omega arith), ne_eqb (number_of f).fault 0 e))

length_same : (k : ℕ) (f : List ℕ) → 1282 ≤ k → length_of (take k f) ≡ length_of f
unfolding length_of
length_same k f h =
    let l = (number_of f).value in
    split f
    (λ e.
    cases (is_length l)
    (λ y.
    let b = length_bounds l y in
    let s = number-two f e (omega arith) in
    let i = dwords_same l (k - (number_of f).size) (drop (number_of f).size f) b.0 (omega arith) in
    rw (rest_same k f (omega arith), number_same k f (omega arith), i))
    (λ y. rw (number_same k f (omega arith), y)))
    (λ e. rw (number_same k f (omega arith), ne_eqb (number_of f).fault 0 e))

message_same : (k : ℕ) (f : List ℕ) → 1283 ≤ k → message_of (take k f) ≡ message_of f
unfolding message_of
message_same k f h =
    let d = (number_of f).value in
    split f
    (λ e.
    cases (ltb 1 d)
    (λ x. rw (number_same k f (omega arith), x))
    (λ x.
    let s = number-one f e (omega (arith, ltb-false 1 d x)) in
    let i = length_same (k - (number_of f).size) (drop (number_of f).size f) (omega arith) in
    rw (rest_same k f (omega arith), number_same k f (omega arith), i)))
    (λ e. rw (number_same k f (omega arith), ne_eqb (number_of f).fault 0 e))

-- ---- a file whose whole messages took no byte has no whole one first

took_some : (f : List ℕ) → (message_of f).fault ≡ 0 → 1 ≤ took_of f
took_some f e =
    let m = message-whole f e in
    let c = whole_cursor f 0 0 (cursor_start f) m in
    let n = whole-size f 0 0 (cursor_start f) m in
    let w = whole_least f (0 + (message_of f).size) (0 + (message_of f).dwords) c in
    let i = cut-within (run_of f) in
    omega (arith, n.0, w, start_least f (whole_of f) (omega arith))

-- a piece as long as the longest message that has no whole one is bad, and so is the file, at the same byte
pub stuck_piece :
    (k : ℕ) (file : List ℕ) → 1283 ≤ length (take k file) → took_of (take k file) ≡ 0
    → (took_of file ≡ 0)
    × (intact file ≡ false)
    × (bad_of file ≡ bad_of (take k file))
    × (fault_of file ≡ fault_of (take k file))
stuck_piece k file h z =
    let piece = take k file in
    let l : length piece ≡ min k (length file) = length-take k file in
    let same : message_of piece ≡ message_of file = message_same k file (omega arith) in
    let bad : (message_of piece).fault ≡ 0 → ⊥ = λ e. omega (arith, took_some piece e) in
    let tp = message-torn piece bad in
    let tf = message-torn file (λ e. bad (ap (λ m. m.fault) same ∙ e)) in
    let c = cursor_start piece in
    let d = cursor_start file in
    let here : 0 < length piece = omega arith in
    let there : 0 < length file = omega arith in (
      torn_took file 0 0 d there tf,
      torn-intact file 0 0 d there tf,
      torn-bad file 0 0 d there tf ∙ ap (λ m. 0 + m.bad) (sym same) ∙ sym (torn-bad piece 0 0 c here tp),
      torn-fault file 0 0 d there tf ∙ ap (λ m. m.fault) (sym same) ∙ sym (torn-fault piece 0 0 c here tp),
    )
