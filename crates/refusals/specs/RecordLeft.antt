-- What a refusal of a record's call leaves: sentences of document 02, T-10. What was lent, the answer, and what was lent
-- afterwards.
use Rattle.std.specs.Prelude.{ℕ, ◌≡◌, List, ◌++◌, length, drop}
use Rattle.record.specs.Files.{messages_of}
use Rattle.record.specs.Calls.{Added}
use Rattle.record.specs.Calls.{Written}
use Rattle.record.specs.Calls.{ReadBack}

-- a refused add (ours): the run stays, and the place for the next message is the one given
pub record AddRefused (run : List ℕ) (place : ℕ) (answer : Added) (after : List ℕ) : Type 0 where
  pub run-stays : after ≡ run
  pub same_place : answer.place ≡ place

-- a refused write: it 'writes nothing in either case', and says so
pub record WriteRefused (output : List ℕ) (answer : Written) (after : List ℕ) : Type 0 where
  pub unwritten : after ≡ output
  pub no_bytes : answer.written ≡ 0

-- a refused read. 29 is, 'beside 7, 8, 9 and 13, the only refusal that changes lent memory'
pub record ReadRefused (file output : List ℕ) (answer : ReadBack) (after : List ℕ) : Type 0 where
  -- 'it is 30 and nothing is written'
  pub at_30 : answer.code ≡ 30 → (after ≡ output) × (answer.written ≡ 0) × (answer.took ≡ 0)
  -- 29: 'The whole messages before that byte are laid', at the front of the output. It says 'how much' was written, in
  -- dwords, and leaves 'the rest of the output'
  pub at_29 :
      answer.code ≡ 29
      → (after ≡ messages_of file ++ drop (length (messages_of file)) output)
      × (answer.written ≡ length (messages_of file))
