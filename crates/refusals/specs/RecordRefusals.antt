-- Demand 1 for the calls of a record (document 02, T-10): each call, the number that it answers, and one statement,
-- RecordDemand1, over the rows of RecordRows.antt.
use Rattle.std.specs.Prelude.{ℕ, ◌≡◌, ◌↔◌, List, length}
use Rattle.record.specs.Calls.{add_answer, add_leaves, write_answer, write_leaves, read_answer, read_leaves}
use Rattle.refusals.specs.Order.{Row, Answered, AllPass}
use Rattle.refusals.specs.RecordRows.{add_tests, write_tests, read_tests}
use Rattle.refusals.specs.RecordLeft.{AddRefused, WriteRefused, ReadRefused}

-- ---- the calls, with all that each is given

pub data RecordCall : Type 0 where
  -- Ours, adding a message to a run, with the run, the place in it, the direction and the message:
  -- record::add (guc_record_add)
  add_call : List ℕ → ℕ → ℕ → List ℕ → RecordCall
  -- writing a run, and reading a file, with the output: record::write (guc_record_write), record::read
  -- (guc_record_read). record::write_bound answers no number
  write_call : List ℕ → List ℕ → RecordCall
  read_call : List ℕ → List ℕ → RecordCall

-- the number that a call answers, by the definition that its contract cites
abbrev pub record_number_of : RecordCall → ℕ
record_number_of (add_call run place direction message) = (add_answer (length run) place direction message).code
record_number_of (write_call run output) = (write_answer run (length output)).code
record_number_of (read_call file output) = (read_answer file (length output)).code

-- its tests, one after another
abbrev pub record_tests : RecordCall → List (List Row)
record_tests (add_call run place direction message) = add_tests run place direction message
record_tests (write_call run output) = write_tests run output
record_tests (read_call file output) = read_tests file output

-- a run, or an output, stays; but a read's 29 lays messages
unfoldable pub RecordLeftBy : RecordCall → Type 0
RecordLeftBy (add_call run place direction message) =
    AddRefused run place (add_answer (length run) place direction message) (add_leaves run place direction message)
RecordLeftBy (write_call run output) = WriteRefused output (write_answer run (length output)) (write_leaves run output)
RecordLeftBy (read_call file output) = ReadRefused file output (read_answer file (length output)) (read_leaves file output)

-- ---- the demand

pub record RecordDemand1 : Type 0 where
  -- a call answers c exactly when c is, of the first of its tests to which any number applies, the lowest that does
  pub exact : (x : RecordCall) (c : ℕ) → (record_number_of x ≡ c) ↔ Answered (record_tests x) c
  -- and 0 exactly when none applies
  pub accepts : (x : RecordCall) → (record_number_of x ≡ 0) ↔ AllPass (record_tests x)
  pub left : (x : RecordCall) → (record_number_of x ≡ 0 → ⊥) → RecordLeftBy x
