-- What the calls of a record answer and leave (document 02, T-10), refused inputs as accepted ones.
use Rattle.std.specs.Prelude.{ℕ, ◌+◌, ◌*◌, ◌-◌, ◌^◌, min, not, cond, List, ◌∷◌, ◌++◌, length, take, drop, eqb, ltb, Result, Ok, Err}
use Rattle.record.specs.Faults.{figure}
use Rattle.record.specs.Numbers.{bytes_of_run}
use Rattle.record.specs.Runs.{judged, cut}
use Rattle.record.specs.Files.{whole_of, took_of, messages_of, intact, bad_of, fault_of}
use Rattle.record.specs.declared.adding.AddError as adding
use Rattle.record.specs.declared.adding.AddError.TheVariants as adding_by
use Rattle.record.specs.declared.reading.Laid.{Laid}
use Rattle.record.specs.declared.reading.ReadError as reading
use Rattle.record.specs.declared.reading.ReadError.TheVariants as reading_by
use Rattle.record.specs.declared.writing.WriteError as writing
use Rattle.record.specs.declared.writing.WriteError.TheVariants as writing_by

-- ---- what the calls answer, as C has it: 0, 29 or 30; at 29 what is wrong, and where

-- .. a write: the place in the run of that message's direction; the bytes that were written
pub record Written : Type 0 where
  pub code : ℕ
  pub fault : ℕ
  pub at : ℕ
  pub written : ℕ

-- .. a read: the byte where the bad number starts; the dwords that were laid, and the bytes of the file that these
-- messages took
pub record ReadBack : Type 0 where
  pub code : ℕ
  pub fault : ℕ
  pub at : ℕ
  pub written : ℕ
  pub took : ℕ

-- .. an add: the place for the next message
pub record Added : Type 0 where
  pub code : ℕ
  pub fault : ℕ
  pub place : ℕ

-- .. as the code answers it
abbrev pub of_written : Result ℕ writing.WriteError → Written
of_written (Ok bytes) = record { code = 0; fault = 0; at = 0; written = bytes }
of_written (Err (writing_by.BadRecord f place bytes)) = record { code = 29; fault = figure f; at = place; written = bytes }
of_written (Err (writing_by.ShortRoom bytes)) = record { code = 30; fault = 0; at = 0; written = bytes }

abbrev pub of_read : Result Laid reading.ReadError → ReadBack
of_read (Ok laid) = record { code = 0; fault = 0; at = 0; written = laid.written; took = laid.took }
of_read (Err (reading_by.BadRecord f byte laid)) =
    record { code = 29; fault = figure f; at = byte; written = laid.written; took = laid.took }
of_read (Err (reading_by.ShortRoom laid)) = record { code = 30; fault = 0; at = 0; written = laid.written; took = laid.took }

abbrev pub of_added : ℕ → Result ℕ adding.AddError → Added
of_added place (Ok next) = record { code = 0; fault = 0; place = next }
of_added place (Err (adding_by.BadRecord f)) = record { code = 29; fault = figure f; place = place }
of_added place (Err adding_by.ShortRoom) = record { code = 30; fault = 0; place = place }

-- ---- what they lay

-- xs over the front of an output that has room for them, which keeps its rest
abbrev pub at_front : List ℕ → List ℕ → List ℕ
at_front xs out = xs ++ drop (length xs) out

-- ---- writing: a run into a file

-- 'Writing refuses a bad direction, L or header, or a run that ends early, with 29 .. then a short output with 30'
unfoldable pub write_number : List ℕ → ℕ → ℕ
write_number run room =
    cond (not (eqb (cut run).fault 0)) 29
    (cond (ltb room (length (bytes_of_run run))) 30 0)

-- 'naming the place of the first bad message's direction': behind the whole messages; 'how much they wrote', in bytes
unfoldable pub write_answer : List ℕ → ℕ → Written
write_answer run room =
    cond (eqb (write_number run room) 29)
    (record { code = 29; fault = (cut run).fault; at = (cut run).dwords; written = 0 })
    (cond (eqb (write_number run room) 30)
    (record { code = 30; fault = 0; at = 0; written = 0 })
    (record { code = 0; fault = 0; at = 0; written = length (bytes_of_run run) }))

-- 'writes nothing in either case'; 'leave the rest of the output'
unfoldable pub write_leaves : List ℕ → List ℕ → List ℕ
write_leaves run out = cond (eqb (write_number run (length out)) 0) (at_front (bytes_of_run run) out) out

-- ---- reading: a file into a run

-- 'Reading back refuses with 29 ..; if what is to be laid doesn't fit, it is 30': also where the file is bad, so that 30
-- is asked first
unfoldable pub read_number : List ℕ → ℕ → ℕ
read_number file room = cond (ltb room (whole_of file)) 30 (cond (intact file) 0 29)

-- 'naming the byte where the first bad number starts'; 'how much they wrote', in dwords; and, ours, how many bytes these
-- messages took
unfoldable pub read_answer : List ℕ → ℕ → ReadBack
read_answer file room =
    cond (eqb (read_number file room) 30)
    (record { code = 30; fault = 0; at = 0; written = 0; took = 0 })
    (cond (eqb (read_number file room) 29)
    (record { code = 29; fault = fault_of file; at = bad_of file; written = whole_of file; took = took_of file })
    (record { code = 0; fault = 0; at = 0; written = whole_of file; took = took_of file }))

-- 'The whole messages before that byte are laid'; at 30 'nothing is written'
unfoldable pub read_leaves : List ℕ → List ℕ → List ℕ
read_leaves file out = cond (eqb (read_number file (length out)) 30) out (at_front (messages_of file) out)

-- ---- adding one message to a run (ours)

-- a message as the run has it
abbrev pub entry_of : ℕ → List ℕ → List ℕ
entry_of direction message = direction ∷ length message ∷ message

-- 29 for a bad direction, L or header; then 30 where it does not fit from the place on
unfoldable pub add_number : ℕ → ℕ → ℕ → List ℕ → ℕ
add_number room place direction message =
    cond (not (eqb (judged (entry_of direction message)).fault 0)) 29
    (cond (ltb room (place + (2 + length message))) 30 0)

-- the place for the next message: past this one, or as it was
unfoldable pub add_answer : ℕ → ℕ → ℕ → List ℕ → Added
add_answer room place direction message =
    record {
      code = add_number room place direction message;
      fault = (judged (entry_of direction message)).fault;
      place = cond (eqb (add_number room place direction message) 0) (place + (2 + length message)) place;
    }

unfoldable pub add_leaves : List ℕ → ℕ → ℕ → List ℕ → List ℕ
add_leaves run place direction message =
    cond (eqb (add_number (length run) place direction message) 0)
    (take place run ++ at_front (entry_of direction message) (drop place run))
    run

-- ---- room

-- ours: the bytes that a run of so many dwords needs at most, five each; past the largest count of 64 bits, that
unfoldable pub write_bound : ℕ → ℕ
write_bound dwords = min (5 * dwords) (2 ^ 64 - 1)
