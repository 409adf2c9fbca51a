-- Laying a file's messages one behind the other, and what reading it answers. Assumes nothing.
use Prim.Native.Nat.{ℕ, ◌+◌, ◌≤◌, ◌<◌}
use mathlib.Core.Path.{◌≡◌, sym, ap, ◌∙◌}
use mathlib.Core.Bool.{true, false}
use mathlib.Core.List.{List, ◌++◌}
use native.Mathlib.Omega.{arith}
use lib.ListN.{length, take, drop, length-drop}
use lib.Seq.{take-add, take_at, length-take-le}
use lib.Dec.{eqb}
use borrow.Author.Tests.{lt-ltb, le-ltb}
use borrow.Rule.Slice.PartMut.{put_mid}
use Rattle.message.proofs.Tests.{cases}
use Rattle.record.specs.Files.{run_of, whole_of, took_of, messages_of, intact, bad_of, fault_of}
use Rattle.record.specs.Calls.{read_number, read_answer, read_leaves}
use Rattle.record.specs.Private.{LaidTo}
use Rattle.record.specs.Calls.{ReadBack}
use Rattle.record.proofs.Slices.{filled_all}

-- a message at the front of a copy
pub entry-taken :
    (copy before xs : List ℕ) (n : ℕ) → copy ≡ xs ++ drop (length xs) before → length xs ≡ n → take n copy ≡ xs
entry-taken copy before xs n e l = rw e (take_at xs (drop (length xs) before) n l)

-- n dwords of a run, laid behind the w before them
pub laid_more :
    (out out₀ run xs : List ℕ) (w n k : ℕ) → out ≡ take w run ++ drop w out₀ → w + n ≤ length run → xs ≡ take n (drop w run)
    → n ≡ k → w + n ≤ length out → put_mid w k out xs ≡ take (w + n) run ++ drop (w + n) out₀
laid_more out out₀ run xs w n k e h d z l =
    let front : length (take w run) ≡ w = length-take-le w run (omega arith) in
    let size : length xs ≡ n = ap length d ∙ length-take-le n (drop w run) (rw (length-drop w run) (omega arith)) in
    let filled = filled_all out out₀ (take w run) xs w e (sym front) k (size ∙ z) (omega (arith, z)) in
    filled ∙ rw (size, d, take-add w n run)

-- ---- what is answered

module _ (f : List ℕ) (room : ℕ) (h : whole_of f ≤ room) where
  pub answer_damaged :
      intact f ≡ false
      → read_answer f room
      ≡ record { code = 29; fault = fault_of f; at = bad_of f; written = whole_of f; took = took_of f }
  unfolding read_answer read_number
  answer_damaged i = rw (le-ltb room (whole_of f) h, i)

  pub answer-whole :
      intact f ≡ true → read_answer f room ≡ record { code = 0; fault = 0; at = 0; written = whole_of f; took = took_of f }
  unfolding read_answer read_number
  answer-whole i = rw (le-ltb room (whole_of f) h, i)

  pub written_all : (read_answer f room).written ≡ whole_of f
  written_all =
      cases (intact f) (λ i. ap (λ r. r.written) (answer-whole i)) (λ i. ap (λ r. r.written) (answer_damaged i))

  pub fits-number : eqb (read_number f room) 30 ≡ false
  unfolding read_number
  fits-number =
      let n = le-ltb room (whole_of f) h in cases (intact f) (λ i. rw (n, i)) (λ i. rw (n, i))

-- the whole messages before a place are laid, whatever stopped there
pub laid_so_far :
    (r : ReadBack) (out out₀ f : List ℕ) (w : ℕ) → r.written ≡ w → w ≤ whole_of f → w ≤ length (run_of f)
    → out ≡ take w (run_of f) ++ drop w out₀ → (whole_of f ≤ length out₀ → r ≡ read_answer f (length out₀)) → LaidTo r out out₀ f
laid_so_far r out out₀ f w e h l o a =
    let size : length (take w (run_of f)) ≡ w = length-take-le w (run_of f) l in
    record { whole = rw e h; front = o ∙ rw (e, size); answer = a }

-- ---- the call

module _ (f out : List ℕ) where
  pub read_short :
      length out < whole_of f
      → (◌≡◌ {A = ReadBack} (record { code = 30; fault = 0; at = 0; written = 0; took = 0 }) (read_answer f (length out)))
      × (out ≡ read_leaves f out)
  unfolding read_answer read_leaves read_number
  read_short h = let s = lt-ltb (length out) (whole_of f) h in (rw s, rw s)

  pub read_laid :
      (r : ReadBack) (after : List ℕ) → whole_of f ≤ length out → LaidTo r after out f
      → (r ≡ read_answer f (length out)) × (after ≡ read_leaves f out)
  unfolding read_leaves messages_of
  read_laid r after h l =
      let w : r.written ≡ whole_of f = ap (λ k. k.written) (l.answer h) ∙ written_all f (length out) h in
      let not_short : eqb (read_number f (length out)) 30 ≡ false = fits-number f (length out) h in
      (l.answer h, l.front ∙ rw (w, not_short))
