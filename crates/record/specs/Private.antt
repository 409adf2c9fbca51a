-- How the code goes through a file: a message at a time, number by number. No public contract has these; that they come
-- to what Files.antt says is proved (proofs/Found.antt).
use Rattle.std.specs.Prelude.{ℕ, zero, suc, ◌+◌, ◌-◌, ◌*◌, ◌≤◌, ◌<◌, ◌≡◌, not, ◌&&◌, cond, List, [], ◌∷◌, ◌++◌, length, get_or, take, drop, replicate, eqb, ltb}
use Rattle.std.specs.Prelude.{Result, Ok, Err}
use Rattle.message.specs.Header.{total_length}
use Rattle.record.specs.Faults.{too_long, bad_direction, bad_length, bad_header, figure}
use Rattle.record.specs.Numbers.{Form, number_of, good, faulty, bytes_of_run}
use Rattle.record.specs.Runs.{Judged, is_length, judged, cut}
use Rattle.record.specs.Files.{whole_of, run_of}
use Rattle.record.specs.Calls.{ReadBack, at_front, read_answer, of_written}
use Rattle.record.specs.declared.finding.Found as code
use Rattle.record.specs.declared.finding.Torn.{Torn}
use Rattle.record.specs.declared.messages.Head.{Head}
use Rattle.record.specs.declared.messages.Wrong.{Wrong}
use Rattle.record.specs.declared.writing.WriteError.{WriteError}

-- a number that ends with this group, behind others that hold value: their weight is what 1 counts here
unfoldable pub ended : ℕ → ℕ → ℕ → ℕ → Form
ended value weight bytes group =
    cond (eqb group 0 && ltb 0 bytes) (faulty too_long) (good (value + weight * group) (bytes + 1))

-- the form of the groups from one on, with the groups before it, so many bytes that hold value
unfoldable pub carried : ℕ → ℕ → ℕ → Form → Form
carried value weight bytes form =
    cond (eqb form.fault 0)
    (cond (eqb form.value 0 && ltb 0 bytes) (faulty too_long)
    (good (value + weight * form.value) (bytes + form.size)))
    form

-- k numbers at the front of some bytes: how far they are good, and the dwords that they are
pub record Numbers : Type 0 where
  pub fault : ℕ
  pub size : ℕ
  pub dwords : List ℕ

-- numbers in front of others
unfoldable pub onto : List ℕ → ℕ → Numbers → Numbers
onto xs bytes b = record { fault = b.fault; size = bytes + b.size; dwords = xs ++ b.dwords }

abbrev pub stop : ℕ → Numbers
stop what = record { fault = what; size = 0; dwords = [] }

unfoldable pub numbers_of : ℕ → List ℕ → Numbers
numbers_of zero f = stop 0
numbers_of (suc k) f =
    let n = number_of f in
    cond (eqb n.fault 0) (onto (n.value ∷ []) n.size (numbers_of k (drop n.size f))) (stop n.fault)

-- how far some bytes are numbers, and what is wrong behind them, or 0 where there are enough
pub record Body : Type 0 where
  pub fault : ℕ
  pub size : ℕ

-- what is wrong first in a message, at this byte of it; or its dwords, and the bytes that they took
pub record Found : Type 0 where
  pub fault : ℕ
  pub bad : ℕ
  pub dwords : ℕ
  pub size : ℕ

abbrev pub torn : ℕ → ℕ → Found
torn what at = record { fault = what; bad = at; dwords = 0; size = 0 }

abbrev pub found : ℕ → ℕ → Found
found dwords bytes = record { fault = 0; bad = 0; dwords = dwords; size = bytes }

-- .. both as the code answers them
abbrev pub of_body : Result ℕ Torn → Body
of_body (Ok bytes) = record { fault = 0; size = bytes }
of_body (Err t) = record { fault = figure t.fault; size = t.at }

abbrev pub of_found : Result code.Found Torn → Found
of_found (Ok m) = found m.dwords m.size
of_found (Err t) = torn (figure t.fault) t.at

-- the same, so many bytes later
unfoldable pub later : ℕ → Found → Found
later bytes r =
    cond (eqb r.fault 0) (found r.dwords (bytes + r.size)) (torn r.fault (bytes + r.bad))

-- the l dwords of a message: its header, which is to agree with l, and the others
unfoldable pub dwords_of : ℕ → List ℕ → Found
dwords_of l f =
    let h = number_of f in
    let b = numbers_of (l - 1) (drop h.size f) in
    cond (not (eqb h.fault 0)) (torn h.fault 0)
    (cond (not (eqb (total_length h.value) l)) (torn bad_header 0)
    (cond (not (eqb b.fault 0)) (torn b.fault (h.size + b.size))
    (found (2 + l) (h.size + b.size))))

-- .. its L, and those
unfoldable pub length_of : List ℕ → Found
length_of f =
    let l = number_of f in
    cond (not (eqb l.fault 0)) (torn l.fault 0)
    (cond (not (is_length l.value)) (torn bad_length 0)
    (later l.size (dwords_of l.value (drop l.size f))))

-- .. its direction, and those: a whole message
unfoldable pub message_of : List ℕ → Found
message_of f =
    let d = number_of f in
    cond (not (eqb d.fault 0)) (torn d.fault 0)
    (cond (ltb 1 d.value) (torn bad_direction 0)
    (later d.size (length_of (drop d.size f))))

-- ---- the dwords of such a message, where it is whole

abbrev pub dwords_in : ℕ → List ℕ → List ℕ
dwords_in l f = (number_of f).value ∷ (numbers_of (l - 1) (drop (number_of f).size f)).dwords

abbrev pub length_in : List ℕ → List ℕ
length_in f = (number_of f).value ∷ dwords_in (number_of f).value (drop (number_of f).size f)

unfoldable pub message_in : List ℕ → List ℕ
message_in f = (number_of f).value ∷ length_in (drop (number_of f).size f)

-- the first numbers of a run
abbrev pub first_head : List ℕ → Head
first_head run = record { direction = get_or run 0 0; len = get_or run 1 0; header = get_or run 2 0 }

-- an empty copy
unfoldable pub blank : List ℕ
blank = replicate 258 0

-- ---- what a function that fills a copy answers, and leaves there

-- a copy filled with numbers
pub record ReadTo (r : Body) (after before f : List ℕ) : Type 0 where
  pub fault : r.fault ≡ (numbers_of (length before) f).fault
  pub size : r.size ≡ (numbers_of (length before) f).size
  pub within : r.size ≤ length f
  pub dwords : r.fault ≡ 0 → after ≡ (numbers_of (length before) f).dwords

-- a message, or part of one, at the front of a copy: xs, out of n bytes
pub record FoundTo (r by : Found) (after before xs : List ℕ) (n : ℕ) : Type 0 where
  pub answer : r ≡ by
  pub bad-within : r.bad ≤ n
  pub within : r.size ≤ n
  pub fits : r.fault ≡ 0 → length xs ≤ length before
  pub dwords : r.fault ≡ 0 → after ≡ xs ++ drop (length xs) before

-- the first message of a run at the front of a copy
pub record TakenTo (r : Judged) (after before run : List ℕ) : Type 0 where
  pub answer : r ≡ judged run
  pub dwords : r.fault ≡ 0 → after ≡ take r.place run ++ drop r.place before

-- ---- what goes through a whole file or run answers, and leaves

-- laid: always the front of the file's whole messages; all of them, with the answer of a read, where they fit
pub record LaidTo (r : ReadBack) (after before f : List ℕ) : Type 0 where
  pub whole : r.written ≤ whole_of f
  pub front : after ≡ at_front (take r.written (run_of f)) before
  pub answer : whole_of f ≤ length before → r ≡ read_answer f (length before)

-- judged and measured: the bytes of a run that is whole to its end, or what is wrong first, and where that message is
abbrev pub MeasuredTo : Result ℕ Wrong → List ℕ → Type 0
MeasuredTo (Ok size) run = ((cut run).fault ≡ 0) × (size ≡ length (bytes_of_run run))
MeasuredTo (Err w) run = ((cut run).fault ≡ figure w.fault) × ((cut run).dwords ≡ w.place)

-- written: always the front of the run's whole messages; all of them where they are the run, and fit. 0 says that the run
-- went, all of it; 30 that a whole message did not; 29 what is wrong behind the last, and how far it got
pub record PutTo (r : Result ℕ WriteError) (after before run : List ℕ) : Type 0 where
  pub dwords : ℕ
  pub whole : dwords ≤ (cut run).dwords
  pub size : (of_written r).written ≡ length (bytes_of_run (take dwords run))
  pub front : after ≡ at_front (bytes_of_run (take dwords run)) before
  pub gone : (of_written r).code ≡ 0 → dwords ≡ length run
  pub short : (of_written r).code ≡ 30 → dwords < (cut run).dwords
  pub bad : (of_written r).code ≡ 29 → ((of_written r).fault ≡ (cut run).fault) × ((of_written r).at ≡ dwords)
  pub all :
      (cut run).fault ≡ 0 → length (bytes_of_run run) ≤ length before
      → (dwords ≡ length run) × (r ≡ Ok (length (bytes_of_run run)))
