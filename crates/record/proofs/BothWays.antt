-- Writing and then reading gives the run, reading and then writing the file; neither touches the rest of its output.
-- Assumes nothing.
use Prim.Native.Nat.{ℕ, zero, suc, ◌+◌, ◌≤◌, ◌<◌, ◌^◌}
use mathlib.Core.Path.{◌≡◌, refl, ap, ◌∙◌}
use mathlib.Core.List.{List, [], ◌∷◌, ◌++◌, flat_map, append_assoc, append-nil}
use native.Mathlib.Omega.{arith}
use borrow.Author.Tests.{eqb-true, eqb-false, eq-eqb, ltb-true, ltb-false, le-ltb}
use lib.ListN.{length, take, drop, length-append}
use lib.Seq.{get_or-drop, take-add, take_at, drop_at, take_all, take-length, length-take-le}
use lib.Seq.{take-append_seam, drop-append_seam}
use lib.Dec.{eqb, ltb}
use Rattle.message.proofs.Tests.{cases}
use Rattle.record.specs.Numbers.{bytes_of, bytes_of_run, number_of}
use Rattle.record.specs.Runs.{cut}
use Rattle.record.specs.Files.{run_of, start_of, whole_of, took_of, messages_of, intact}
use Rattle.record.specs.Calls.{at_front, write_number, write_answer, write_leaves, read_number, read_answer, read_leaves}
use Rattle.record.specs.MailedHome.{Bytes, Dwords}
use Rattle.record.proofs.Forms.{number_nil, split, run-good, run-bad, start_zero, start_suc, start-bad}
use Rattle.record.proofs.Forms.{start-within, start_least}
use Rattle.record.proofs.Shortest.{number_there, number_back}
use Rattle.record.proofs.Cuts.{cut-within, cut_all}
use Rattle.record.proofs.Fronts.{cut-front}

-- ---- the bytes of a run as a file

-- a number in front of other bytes
module _ (x : ℕ) (rest : List ℕ) (d : x < 2 ^ 32) where
  there-good : (number_of (bytes_of x ++ rest)).fault ≡ 0
  there-good = rw (number_there x rest d)

  there-rest : drop (number_of (bytes_of x ++ rest)).size (bytes_of x ++ rest) ≡ rest
  there-rest = rw (number_there x rest d) (drop-append_seam (bytes_of x) rest)

  run-first : run_of (bytes_of x ++ rest) ≡ x ∷ run_of rest
  run-first =
      let e = run-good (bytes_of x ++ rest) there-good in
      rw (there-rest, number_there x rest d) at e

  start_first : (k : ℕ) → start_of (bytes_of x ++ rest) (suc k) ≡ length (bytes_of x) + start_of rest k
  start_first k =
      let e = start_suc (bytes_of x ++ rest) k there-good in
      rw (there-rest, number_there x rest d) at e

-- a run in front of other bytes
pub run-append : (xs rest : List ℕ) → Dwords xs → run_of (bytes_of_run xs ++ rest) ≡ xs ++ run_of rest
unfolding flat_map
run-append [] rest d = refl
run-append (x ∷ xs) rest d =
    rw (append_assoc, run-first x (bytes_of_run xs ++ rest) (d 0), run-append xs rest (λ i. d (suc i)))

-- .. and where its numbers start
pub start-append :
    (xs rest : List ℕ) (k : ℕ) → Dwords xs → k ≤ length xs
    → start_of (bytes_of_run xs ++ rest) k ≡ length (bytes_of_run (take k xs))
unfolding flat_map
start-append xs rest zero d h = start_zero (bytes_of_run xs ++ rest)
start-append [] rest (suc k) d h = absurd (omega arith)
start-append (x ∷ xs) rest (suc k) d h =
    let i = start-append xs rest k (λ i. d (suc i)) (omega arith) in
    rw (append_assoc, start_first x (bytes_of_run xs ++ rest) (d 0) k, i, length-append)

-- the run by itself
pub run-there : (run : List ℕ) → Dwords run → run_of (bytes_of_run run) ≡ run
run-there run d =
    let e : run_of (bytes_of_run run ++ []) ≡ run ++ [] =
    run-append run [] d ∙ ap (λ (l : List ℕ). run ++ l) (run-bad [] number_nil) in
    rw (append-nil (bytes_of_run run), append-nil run) at e

-- .. and where it ends
pub start-there : (run : List ℕ) → Dwords run → start_of (bytes_of_run run) (length run) ≡ length (bytes_of_run run)
start-there run d =
    let e = start-append run [] (length run) d (omega arith) in
    rw (append-nil, take-length) at e

-- the bytes of a file as those of its run
pub bytes_back : (f : List ℕ) (k : ℕ) → Bytes f → bytes_of_run (take k (run_of f)) ≡ take (start_of f k) f
unfolding flat_map
bytes_back f zero b = rw (start_zero f)
bytes_back f (suc k) b =
    split f
    (λ h.
    let n = number_of f in
    let c : Bytes (drop n.size f) = λ i. rw get_or-drop (b (n.size + i)) in
    let i = bytes_back (drop n.size f) k c in
    rw (run-good f h, start_suc f k h, take-add, i, (number_back f b h).1))
    (λ h. rw (run-bad f h, start-bad f (suc k) h))

-- ---- the calls

-- a file gives no more dwords than it has bytes
pub one_each : (f : List ℕ) → whole_of f ≤ length f
one_each f =
    let w = cut-within (run_of f) in
    omega (arith, start_least f (length (run_of f)) (omega arith), start-within f (length (run_of f)))

-- as many dwords as the whole messages have are laid
pub messages-length : (f : List ℕ) → length (messages_of f) ≡ whole_of f
unfolding messages_of
messages-length f = let w = cut-within (run_of f) in length-take-le (whole_of f) (run_of f) (omega arith)

-- what a write's number is
by_write :
    {X : Type 0} (run : List ℕ) (room : ℕ) → (write_number run room ≡ 29 → X) → (write_number run room ≡ 30 → X)
    → ((cut run).fault ≡ 0 → length (bytes_of_run run) ≤ room → write_number run room ≡ 0 → X) → X
unfolding write_number
by_write run room a b c =
    cases (eqb (cut run).fault 0)
    (λ e.
    cases (ltb room (length (bytes_of_run run)))
    (λ f. b (rw (e, f)))
    (λ f. c (eqb-true (cut run).fault 0 e) (ltb-false room (length (bytes_of_run run)) f) (rw (e, f))))
    (λ e. a (rw e))

-- writing leaves the rest of the output
pub write_rest :
    (run out : List ℕ)
    → drop (write_answer run (length out)).written (write_leaves run out)
    ≡ drop (write_answer run (length out)).written out
unfolding write_answer write_leaves
write_rest run out =
    let b = bytes_of_run run in
    by_write run (length out) (λ e. rw e) (λ e. rw e) (λ f l e. rw e (drop-append_seam b (drop (length b) out)))

-- what a read's number is
pub by_read :
    {X : Type 0} (f : List ℕ) (room : ℕ) → (room < whole_of f → read_number f room ≡ 30 → X)
    → (whole_of f ≤ room → (took_of f ≡ length f → ⊥) → read_number f room ≡ 29 → X)
    → (whole_of f ≤ room → took_of f ≡ length f → read_number f room ≡ 0 → X) → X
unfolding read_number
by_read f room a b c =
    cases (ltb room (whole_of f))
    (λ e. a (ltb-true room (whole_of f) e) (rw e))
    (λ e.
    let l = ltb-false room (whole_of f) e in
    cases (intact f)
    (λ g. c l (eqb-true (took_of f) (length f) g) (rw (e, g)))
    (λ g. b l (eqb-false (took_of f) (length f) g) (rw (e, g))))

-- and so does reading
pub read_rest :
    (file out : List ℕ)
    → drop (read_answer file (length out)).written (read_leaves file out)
    ≡ drop (read_answer file (length out)).written out
unfolding read_answer read_leaves
read_rest file out =
    let m : drop (whole_of file) (at_front (messages_of file) out) ≡ drop (whole_of file) out =
    drop_at (messages_of file) (drop (length (messages_of file)) out) (whole_of file) (messages-length file)
    ∙ ap (λ (k : ℕ). drop k out) (messages-length file) in
    by_read file (length out) (λ l e. rw e) (λ l t e. rw e m) (λ l t e. rw e m)

-- an accepted write
module _ (run out : List ℕ) (h : write_number run (length out) ≡ 0) where
  write_says : (write_answer run (length out)).written ≡ length (bytes_of_run run)
  unfolding write_answer
  write_says = rw h

  write_lays : write_leaves run out ≡ at_front (bytes_of_run run) out
  unfolding write_leaves
  write_lays = rw h

  write_file : take (write_answer run (length out)).written (write_leaves run out) ≡ bytes_of_run run
  write_file = rw (write_says, write_lays) (take-append_seam (bytes_of_run run) (drop (length (bytes_of_run run)) out))

-- an accepted read
module _ (f out : List ℕ) (h : read_number f (length out) ≡ 0) where
  read_says : (read_answer f (length out)).written ≡ whole_of f
  unfolding read_answer
  read_says = rw h

  read_lays : read_leaves f out ≡ at_front (messages_of f) out
  unfolding read_leaves
  read_lays = rw h

  read_run : take (read_answer f (length out)).written (read_leaves f out) ≡ messages_of f
  read_run =
      rw (read_says, read_lays)
      (take_at (messages_of f) (drop (length (messages_of f)) out) (whole_of f) (messages-length f))

-- what is to be written and fits is, and the same of a read
write_zero : (run : List ℕ) (room : ℕ) → (cut run).fault ≡ 0 → length (bytes_of_run run) ≤ room → write_number run room ≡ 0
unfolding write_number
write_zero run room f l = rw (eq-eqb (cut run).fault 0 f, le-ltb room (length (bytes_of_run run)) l)

read_zero : (f : List ℕ) (room : ℕ) → whole_of f ≤ room → took_of f ≡ length f → read_number f room ≡ 0
unfolding read_number
read_zero f room l t = rw (le-ltb room (whole_of f) l, eq-eqb (took_of f) (length f) t)

-- the file of a whole run
module _ (run : List ℕ) (d : Dwords run) (c : (cut run).fault ≡ 0) where
  file-whole : whole_of (bytes_of_run run) ≡ length run
  file-whole = ap (λ (l : List ℕ). (cut l).dwords) (run-there run d) ∙ cut_all run c

  file_took : took_of (bytes_of_run run) ≡ length (bytes_of_run run)
  file_took = ap (start_of (bytes_of_run run)) file-whole ∙ start-there run d

  file-messages : messages_of (bytes_of_run run) ≡ run
  unfolding messages_of
  file-messages = rw (file-whole, run-there run d) (take-length run)

  file_read :
      (back : List ℕ) → length run ≤ length back
      → (read_number (bytes_of_run run) (length back) ≡ 0)
      × ((read_answer (bytes_of_run run) (length back)).written ≡ length run)
      × (read_leaves (bytes_of_run run) back ≡ at_front run back)
  file_read back l =
      let z = read_zero (bytes_of_run run) (length back) (rw file-whole l) file_took in (
        z,
        read_says (bytes_of_run run) back z ∙ file-whole,
        read_lays (bytes_of_run run) back z ∙ ap (λ (xs : List ℕ). at_front xs back) file-messages,
      )

-- an accepted write then read gives the messages
pub write_then_read :
    (run out back : List ℕ) → Dwords run → write_number run (length out) ≡ 0 → length run ≤ length back
    → let file = take (write_answer run (length out)).written (write_leaves run out) in
    (read_number file (length back) ≡ 0)
    × ((read_answer file (length back)).written ≡ length run)
    × (read_leaves file back ≡ at_front run back)
write_then_read run out back d h l =
    by_write run (length out)
    (λ e. absurd (omega arith))
    (λ e. absurd (omega arith))
    (λ c k e. rw (write_file run out h) (file_read run d c back l))

-- the messages of a file that is whole
module _ (f : List ℕ) (b : Bytes f) (t : took_of f ≡ length f) where
  messages-bytes : bytes_of_run (messages_of f) ≡ f
  unfolding messages_of
  messages-bytes = bytes_back f (whole_of f) b ∙ take_all (took_of f) f (omega arith)

  messages-whole : (cut (messages_of f)).fault ≡ 0
  unfolding messages_of
  messages-whole = cut-front (run_of f)

  messages_write :
      (back : List ℕ) → length f ≤ length back
      → (write_number (messages_of f) (length back) ≡ 0)
      × ((write_answer (messages_of f) (length back)).written ≡ length f)
      × (write_leaves (messages_of f) back ≡ at_front f back)
  messages_write back l =
      let z = write_zero (messages_of f) (length back) messages-whole (rw messages-bytes l) in (
        z,
        write_says (messages_of f) back z ∙ ap length messages-bytes,
        write_lays (messages_of f) back z ∙ ap (λ (xs : List ℕ). at_front xs back) messages-bytes,
      )

-- an accepted read then write gives the bytes
pub read_then_write :
    (file out back : List ℕ) → Bytes file → read_number file (length out) ≡ 0 → length file ≤ length back
    → let run = take (read_answer file (length out)).written (read_leaves file out) in
    (write_number run (length back) ≡ 0)
    × ((write_answer run (length back)).written ≡ length file)
    × (write_leaves run back ≡ at_front file back)
read_then_write file out back b h l =
    by_read file (length out)
    (λ k e. absurd (omega arith))
    (λ k t e. absurd (omega arith))
    (λ k t e. rw (read_run file out h) (messages_write file b t back l))
