-- What document 02 asks to prove of a record (T-10), and what an issue of its own adds: one record of statements, the
-- contract of `record::mailed_home`.
use Rattle.std.specs.Prelude.{ℕ, zero, suc, ◌+◌, ◌-◌, ◌*◌, ◌≤◌, ◌<◌, ◌^◌, ◌≡◌, false, cond, length, get_or, take, drop, eqb, leb}
use mathlib.Core.List.{List, [], ◌∷◌, ◌++◌, flatten}
use Rattle.record.specs.Faults.{unfinished, missing}
use Rattle.record.specs.Numbers.{bytes_of, bytes_of_run, number_of, good}
use Rattle.record.specs.Runs.{judged, cut}
use Rattle.record.specs.Files.{whole_of, took_of, messages_of, intact, bad_of, fault_of}
use Rattle.record.specs.Calls.{at_front, write_number, write_answer, write_leaves, read_number, read_answer, read_leaves}
use Rattle.record.specs.Calls.{ReadBack, entry_of, add_number, add_answer, add_leaves}

-- what is lent as bytes or as dwords holds such numbers
abbrev pub Bytes : List ℕ → Type 0
Bytes file = (i : ℕ) → get_or file i 0 < 256

abbrev pub Dwords : List ℕ → Type 0
Dwords run = (i : ℕ) → get_or run i 0 < 2 ^ 32

-- the messages of a run one by one, each with its direction and L in front: at most k of them
unfoldable pub entries_from : ℕ → List ℕ → List (List ℕ)
entries_from zero run = []
entries_from (suc k) [] = []
entries_from (suc k) (x ∷ xs) =
    let first = judged (x ∷ xs) in
    cond (eqb first.fault 0)
    (take first.place (x ∷ xs) ∷ entries_from k (drop first.place (x ∷ xs)))
    []

unfoldable pub entries : List ℕ → List (List ℕ)
entries run = entries_from (length run) run

-- 'its whole messages before the cut': those whose bytes end at byte k or before it
unfoldable pub before : ℕ → List (List ℕ) → List (List ℕ)
before k [] = []
before k (m ∷ ms) =
    cond (leb (length (bytes_of_run m)) k) (m ∷ before (k - length (bytes_of_run m)) ms) []

-- the numbers of a run whose bytes end at byte k or before it: behind them is the one that a cut there tears
unfoldable pub numbers_before : ℕ → List ℕ → List ℕ
numbers_before k [] = []
numbers_before k (x ∷ xs) = cond (leb (length (bytes_of x)) k) (x ∷ numbers_before (k - length (bytes_of x)) xs) []

-- what reading a file cut at byte k answers, where these are the messages before it and the bytes of the numbers before
-- it: 0 between messages, else 29 at the number that is torn or missing
unfoldable pub cut_answer : ℕ → List ℕ → ℕ → ReadBack
cut_answer k laid torn =
    cond (eqb (length (bytes_of_run laid)) k)
    (record { code = 0; fault = 0; at = 0; written = length laid; took = k })
    (record {
      code = 29;
      fault = cond (eqb torn k) missing unfinished;
      at = torn;
      written = length laid;
      took = length (bytes_of_run laid);
    })

-- a file read piece by piece: pieces of these sizes, each from where the messages of the one before it ended, and then
-- the rest
unfoldable pub pieces : List ℕ → List ℕ → List ℕ
pieces [] file = messages_of file
pieces (k ∷ ks) file = messages_of (take k file) ++ pieces ks (drop (took_of (take k file)) file)

pub record MailedHome : Type 0 where
  -- a number that is written and then read is the number, and takes exactly its bytes
  pub number-there : (n : ℕ) (rest : List ℕ) → n < 2 ^ 32 → number_of (bytes_of n ++ rest) ≡ good n (length (bytes_of n))
  -- one that is read and then written gives the bytes: 'shortest form only'
  pub number-back :
      (file : List ℕ) → Bytes file → (number_of file).fault ≡ 0
      → ((number_of file).value < 2 ^ 32) × (bytes_of (number_of file).value ≡ take (number_of file).size file)
  -- 'with room, an accepted write then read gives the messages'
  pub write_then_read_fact :
      (run out back : List ℕ) → Dwords run → write_number run (length out) ≡ 0 → length run ≤ length back
      → let file = take (write_answer run (length out)).written (write_leaves run out) in
      (read_number file (length back) ≡ 0)
      × ((read_answer file (length back)).written ≡ length run)
      × (read_leaves file back ≡ at_front run back)
  -- 'an accepted read then write gives the bytes'
  pub read_then_write_fact :
      (file out back : List ℕ) → Bytes file → read_number file (length out) ≡ 0 → length file ≤ length back
      → let run = take (read_answer file (length out)).written (read_leaves file out) in
      (write_number run (length back) ≡ 0)
      × ((write_answer run (length back)).written ≡ length file)
      × (write_leaves run back ≡ at_front file back)
  -- 'a written file cut anywhere hands out exactly its whole messages before the cut'
  pub cut_anywhere_fact :
      (run back : List ℕ) (k : ℕ) → Dwords run → (cut run).fault ≡ 0 → k ≤ length (bytes_of_run run)
      → let laid = flatten (before k (entries run)) in
      length laid ≤ length back
      → (read_answer (take k (bytes_of_run run)) (length back) ≡ cut_answer k laid (length (bytes_of_run (numbers_before k run))))
      × (read_leaves (take k (bytes_of_run run)) back ≡ at_front laid back)
  -- 'The whole messages before that byte are laid': of any file, however it is damaged, what is laid is the longest run of
  -- whole messages whose bytes the file starts with
  pub longest :
      (file : List ℕ) → Bytes file
      → (bytes_of_run (messages_of file) ≡ take (took_of file) file)
      × ((cut (messages_of file)).fault ≡ 0)
      × ((run : List ℕ) → Dwords run → (cut run).fault ≡ 0 → take (length (bytes_of_run run)) file ≡ bytes_of_run run
      → (length (bytes_of_run run) ≤ took_of file) × (length run ≤ whole_of file))
  -- the messages of a run that is whole are all of it
  pub all-entries : (run : List ℕ) → (cut run).fault ≡ 0 → flatten (entries run) ≡ run
  -- 'Both .. leave the rest of the output', refused or not
  pub write_rest_fact :
      (run out : List ℕ)
      → drop (write_answer run (length out)).written (write_leaves run out)
      ≡ drop (write_answer run (length out)).written out
  pub read_rest_fact :
      (file out : List ℕ)
      → drop (read_answer file (length out)).written (read_leaves file out)
      ≡ drop (read_answer file (length out)).written out
  -- a message that is added makes the run of one message more
  pub one_more :
      (run message : List ℕ) (place direction : ℕ) → place ≤ length run → (cut (take place run)).fault ≡ 0
      → add_number (length run) place direction message ≡ 0
      → let next = (add_answer (length run) place direction message).place in
      let after = add_leaves run place direction message in
      (take next after ≡ take place run ++ entry_of direction message)
      × ((cut (take next after)).fault ≡ 0)
      × (entries (take next after) ≡ entries (take place run) ++ (entry_of direction message ∷ []))
      × (drop next after ≡ drop next run)
  -- a file read piece by piece: the pieces' messages, joined, are the whole file's
  pub in_pieces_fact : (ks file : List ℕ) → pieces ks file ≡ messages_of file
  -- and what is wrong with the file, if anything, is what is wrong with the last piece, at the same byte
  pub last_piece_fact :
      (k : ℕ) (file : List ℕ)
      → let took = took_of (take k file) in
      (took_of file ≡ took + took_of (drop took file))
      × (bad_of file ≡ took + bad_of (drop took file))
      × (intact file ≡ intact (drop took file))
      × (fault_of file ≡ fault_of (drop took file))
  -- no run needs more than five bytes for a dword, no file gives more dwords than it has bytes
  pub five_each_fact : (run : List ℕ) → length (bytes_of_run run) ≤ 5 * length run
  pub one_each : (file : List ℕ) → whole_of file ≤ length file
  -- a piece that is as long as the longest message and has no whole one is bad, and the file with it, at the same byte:
  -- more of the file would not help
  pub stuck_piece_fact :
      (k : ℕ) (file : List ℕ) → 1283 ≤ length (take k file) → took_of (take k file) ≡ 0
      → (took_of file ≡ 0)
      × (intact file ≡ false)
      × (bad_of file ≡ bad_of (take k file))
      × (fault_of file ≡ fault_of (take k file))
