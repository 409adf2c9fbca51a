-- The table goes on: the rows of a record, to be laid beside document 02's T-10, and the tests that its calls make.
-- As in Table.antt, a row speaks of the call's inputs alone, never of another row.
use Rattle.std.specs.Prelude.{ℕ, zero, suc, ◌+◌, ◌-◌, Bool, true, false, not, ◌&&◌, ◌||◌, List, [], ◌∷◌, length, get_or, drop, eqb, leb, ltb}
use Rattle.message.specs.Fields.{num_dwords, field_of}
use Rattle.record.specs.Numbers.{bytes_of_run}
use Rattle.record.specs.Files.{whole_of, intact}
use Rattle.refusals.specs.Order.{Row, row}

-- ---- 'No.', 'Given exactly when'

-- 29 of a write: 'a bad direction, L or header, or a run that ends early', of a run that has 'per message, 0 for sent
-- or 1 for received, then L, then the L dwords', where 'L runs from 1 to 256' and a header agrees with L by document
-- 01's 'Total length L = 1 + NUM_DWORDS'. So a run is a record if it has no dword, or a direction, an L and a header,
-- L - 1 dwords more, and then a record: in so many steps, each over one message
unfoldable pub is_record_in : ℕ → List ℕ → Bool
is_record_in zero [] = true
is_record_in zero (direction ∷ rest) = false
is_record_in (suc steps) [] = true
is_record_in (suc steps) (direction ∷ []) = false
is_record_in (suc steps) (direction ∷ l ∷ []) = false
is_record_in (suc steps) (direction ∷ l ∷ header ∷ rest) =
    leb direction 1
    && leb 1 l
    && leb l 256
    && eqb (1 + field_of num_dwords header) l
    && leb (l - 1) (length rest)
    && is_record_in steps (drop (l - 1) rest)

-- (a run has no more messages than dwords)
abbrev pub is_record : List ℕ → Bool
is_record run = is_record_in (length run) run

abbrev pub row_29_run : List ℕ → Row
row_29_run run = row 29 (not (is_record run))

-- 29 of an add (ours): 'a bad direction, L or header', of a direction and a message that are to be put behind a run;
-- L is how many dwords the message has
abbrev pub row_29_message : ℕ → List ℕ → Row
row_29_message direction message =
    row 29
    (ltb 1 direction
    || not (leb 1 (length message) && leb (length message) 256)
    || not (eqb (1 + field_of num_dwords (get_or message 0 0)) (length message)))

-- 29 of a read: 'one unfinished or missing inside a message, a form too long, a number above 32 bits, a direction
-- above 1, an L outside its limits, or a header that disagrees with L': the file is not whole messages to its end.
-- (This is `record`'s name for it. Its MailedHome says in words of its own that what is read of any file is the longest
-- run of whole messages whose bytes the file starts with, and that an accepted file is one that a write gives.)
abbrev pub row_29_file : List ℕ → Row
row_29_file file = row 29 (not (intact file))

-- 30 of a write: 'a short output', for the bytes of the run
abbrev pub row_30_bytes : List ℕ → List ℕ → Row
row_30_bytes run output = row 30 (ltb (length output) (length (bytes_of_run run)))

-- 30 of an add (ours): from the place on, the run is too short for the direction, L and the message
abbrev pub row_30_place : List ℕ → ℕ → List ℕ → Row
row_30_place run place message = row 30 (ltb (length run) (place + (2 + length message)))

-- 30 of a read: 'if what is to be laid doesn't fit', the dwords of the file's whole messages (`record`'s name again)
abbrev pub row_30_dwords : List ℕ → List ℕ → Row
row_30_dwords file output = row 30 (ltb (length output) (whole_of file))

-- ---- which rows each call has: tests, one after another

-- 'Writing refuses a bad direction, L or header, or a run that ends early, with 29, .. then a short output with 30'
abbrev pub write_tests : List ℕ → List ℕ → List (List Row)
write_tests run output = (row_29_run run ∷ []) ∷ (row_30_bytes run output ∷ []) ∷ []

-- ours, in the order of a write
abbrev pub add_tests : List ℕ → ℕ → ℕ → List ℕ → List (List Row)
add_tests run place direction message =
    (row_29_message direction message ∷ []) ∷ (row_30_place run place message ∷ []) ∷ []

-- 'if what is to be laid doesn't fit, it is 30 and nothing is written', whatever is wrong behind it: so 30 is the first
abbrev pub read_tests : List ℕ → List ℕ → List (List Row)
read_tests file output = (row_30_dwords file output ∷ []) ∷ (row_29_file file ∷ []) ∷ []
