-- Worked examples of a record (document 02, T-10): the paper's figures, and ours at both sides of each of its lines.
use Rattle.std.specs.Prelude.{ℕ, List, [], ◌∷◌, ◌++◌, map, length, take, replicate}
use Rattle.record.specs.Faults.{unfinished, missing, too_long, above, bad_direction, bad_length, bad_header}
use Rattle.record.specs.Numbers.{bytes_of, bytes_of_run, number_of, good, faulty}
use Rattle.record.specs.Calls.{write_answer, write_leaves, read_answer, read_leaves, add_answer, add_leaves, write_bound}
use Rattle.record.specs.Calls.{ReadBack}
use Rattle.record.specs.Calls.{Written}
use Rattle.record.specs.Calls.{Added}
use Rattle.examples.specs.Example.{Example, ◌is◌, Each}
use Rattle.examples.specs.Inputs.{dwords, untouched}

-- ---- how a row says an answer, with what is left in lent memory

-- a file read, into an output
abbrev pub reads : List ℕ → List ℕ → ReadBack × List ℕ
reads file out = (read_answer file (length out), read_leaves file out)

-- 0, with the dwords laid and the bytes that they took; 29, with what is wrong and at which byte too; 30
abbrev pub read_to : ℕ → ℕ → List ℕ → ReadBack × List ℕ
read_to laid took out = (record { code = 0; fault = 0; at = 0; written = laid; took = took }, out)

abbrev pub bad_file : ℕ → ℕ → ℕ → ℕ → List ℕ → ReadBack × List ℕ
bad_file what byte laid took out = (record { code = 29; fault = what; at = byte; written = laid; took = took }, out)

abbrev pub no_room_to_read : List ℕ → ReadBack × List ℕ
no_room_to_read out = (record { code = 30; fault = 0; at = 0; written = 0; took = 0 }, out)

-- a run written, into an output
abbrev pub writes : List ℕ → List ℕ → Written × List ℕ
writes run out = (write_answer run (length out), write_leaves run out)

-- 0, with the bytes written; 29, with what is wrong and the place of that message's direction; 30
abbrev pub written_to : ℕ → List ℕ → Written × List ℕ
written_to bytes out = (record { code = 0; fault = 0; at = 0; written = bytes }, out)

abbrev pub bad_run : ℕ → ℕ → List ℕ → Written × List ℕ
bad_run what place out = (record { code = 29; fault = what; at = place; written = 0 }, out)

abbrev pub no_room_to_write : List ℕ → Written × List ℕ
no_room_to_write out = (record { code = 30; fault = 0; at = 0; written = 0 }, out)

-- a message added to a run, from a place on: number, what is wrong, the next place
abbrev pub adds : List ℕ → ℕ → ℕ → List ℕ → Added × List ℕ
adds onto place direction message =
    (add_answer (length onto) place direction message, add_leaves onto place direction message)

abbrev pub added_to : ℕ → ℕ → ℕ → List ℕ → Added × List ℕ
added_to number what place run = (record { code = number; fault = what; place = place }, run)

-- ---- two messages

-- one sent: 0, L 2, its header and 300, in bytes 0 to 8; one received: 1, L 1 and its header, in bytes 9 to 15. The
-- second is malformed by its length: 'malformed messages may be kept'
abbrev pub run : List ℕ
run = 0 ∷ 2 ∷ 0x12340001 ∷ 300 ∷ 1 ∷ 1 ∷ 0x12340000 ∷ []

abbrev pub file : List ℕ
file =
    0x00 ∷ 0x02 ∷ 0x81 ∷ 0x80 ∷ 0xD0 ∷ 0x91 ∷ 0x01 ∷ 0xAC ∷ 0x02
    ∷ 0x01 ∷ 0x01 ∷ 0x80 ∷ 0x80 ∷ 0xD0 ∷ 0x91 ∷ 0x01 ∷ []

-- what came behind the first of them in the file, or in the run
abbrev pub file_then : List ℕ → List ℕ
file_then bytes = take 9 file ++ bytes

abbrev pub run_then : List ℕ → List ℕ
run_then others = take 4 run ++ others

-- bytes of an output that nothing was written to
abbrev pub unwritten : ℕ → List ℕ
unwritten n = replicate n 0xBB

-- ---- numbers, both ways

abbrev pub numbers : List ℕ
numbers = 0 ∷ 127 ∷ 128 ∷ 300 ∷ 16383 ∷ 16384 ∷ 4294967295 ∷ []

abbrev pub forms : List (List ℕ)
forms =
    (0x00 ∷ [])
    ∷ (0x7F ∷ [])
    ∷ (0x80 ∷ 0x01 ∷ [])
    ∷ (0xAC ∷ 0x02 ∷ [])
    ∷ (0xFF ∷ 0x7F ∷ [])
    ∷ (0x80 ∷ 0x80 ∷ 0x01 ∷ [])
    ∷ (0xFF ∷ 0xFF ∷ 0xFF ∷ 0xFF ∷ 0x0F ∷ [])
    ∷ []

-- ---- THE TABLE

unfoldable pub records : List Example
records =
    -- '300 is the bytes AC 02.' Ours: both sides of one byte and of two, and the smallest and the largest number
    (map bytes_of numbers is forms)
    -- Ours: the same bytes read, each with its size, alone and in front of a byte that is another number's
    ∷ (map number_of forms
    is good 0 1 ∷ good 127 1 ∷ good 128 2 ∷ good 300 2 ∷ good 16383 2 ∷ good 16384 3 ∷ good 4294967295 5 ∷ [])
    ∷ (map (λ bytes. number_of (bytes ++ (0x80 ∷ []))) forms is map number_of forms)
    -- Ours: the figures for what is wrong
    ∷ (unfinished ∷ missing ∷ too_long ∷ above ∷ bad_direction ∷ bad_length ∷ bad_header ∷ []
    is 1 ∷ 2 ∷ 3 ∷ 4 ∷ 5 ∷ 6 ∷ 7 ∷ [])
    -- 'one unfinished or missing ..'
    ∷ (map number_of ((0x80 ∷ []) ∷ (0xFF ∷ 0xFF ∷ 0xFF ∷ 0xFF ∷ []) ∷ [] ∷ [])
    is faulty unfinished ∷ faulty unfinished ∷ faulty missing ∷ [])
    -- '.. a form too long ..': 'shortest form only'
    ∷ (map number_of ((0x80 ∷ 0x00 ∷ []) ∷ (0xAC ∷ 0x82 ∷ 0x00 ∷ []) ∷ (0xFF ∷ 0xFF ∷ 0xFF ∷ 0xFF ∷ 0x00 ∷ []) ∷ [])
    is replicate 3 (faulty too_long))
    -- '.. a number above 32 bits'
    ∷ (map number_of ((0xFF ∷ 0xFF ∷ 0xFF ∷ 0xFF ∷ 0x10 ∷ []) ∷ (0xFF ∷ 0xFF ∷ 0xFF ∷ 0xFF ∷ 0xFF ∷ 0x01 ∷ []) ∷ [])
    is replicate 2 (faulty above))
    -- 'per message, 0 for sent or 1 for received, then L, then the L dwords': read, with room for two dwords more, and
    -- with just enough
    ∷ (reads file (untouched 9) is read_to 7 16 (run ++ untouched 2))
    ∷ (reads file (untouched 7) is read_to 7 16 run)
    -- 'if what is to be laid doesn't fit, it is 30 and nothing is written': with one dword less
    ∷ (reads file (untouched 6) is no_room_to_read (untouched 6))
    -- Ours: an empty file has no message
    ∷ (reads [] (untouched 2) is read_to 0 0 (untouched 2))
    ∷ (reads [] [] is read_to 0 0 [])
    -- 'The whole messages before that byte are laid': cut between the messages; behind the second's L, where a number
    -- is missing; and inside its header, at both ends
    ∷ (reads (take 9 file) (untouched 9) is read_to 4 9 (take 4 run ++ untouched 5))
    ∷ (reads (take 11 file) (untouched 9) is bad_file missing 11 4 9 (take 4 run ++ untouched 5))
    ∷ (map (λ k. reads (take k file) (untouched 9)) (12 ∷ 15 ∷ [])
    is replicate 2 (bad_file unfinished 11 4 9 (take 4 run ++ untouched 5)))
    -- Ours: the same where the first just fits, and does not: 30 is before 29
    ∷ (reads (take 12 file) (untouched 4) is bad_file unfinished 11 4 9 (take 4 run))
    ∷ (reads (take 12 file) (untouched 3) is no_room_to_read (untouched 3))
    -- 'naming the byte where the first bad number starts': behind a whole message, a form too long as L; a number above
    -- 32 bits as header; 'a direction above 1'; 'an L outside its limits', 0 and 257; and 'a header that disagrees with
    -- L', which is 1 by it
    ∷ (map (λ bytes. reads (file_then bytes) (untouched 9))
    ((0x01 ∷ 0x81 ∷ 0x00 ∷ [])
    ∷ (0x01 ∷ 0x01 ∷ 0xFF ∷ 0xFF ∷ 0xFF ∷ 0xFF ∷ 0x10 ∷ [])
    ∷ (0x02 ∷ [])
    ∷ (0x01 ∷ 0x00 ∷ [])
    ∷ (0x00 ∷ 0x81 ∷ 0x02 ∷ [])
    ∷ (0x00 ∷ 0x02 ∷ 0x80 ∷ 0x80 ∷ 0xD0 ∷ 0x91 ∷ 0x01 ∷ [])
    ∷ [])
    is map (λ (bad : ℕ × ℕ). bad_file bad.0 bad.1 4 9 (take 4 run ++ untouched 5))
    ((too_long, 10) ∷ (above, 11) ∷ (bad_direction, 9) ∷ (bad_length, 10) ∷ (bad_length, 10) ∷ (bad_header, 11) ∷ []))
    -- written: 'say how much they wrote and leave the rest of the output', and with just enough
    ∷ (writes run (unwritten 18) is written_to 16 (file ++ unwritten 2))
    ∷ (writes run (unwritten 16) is written_to 16 file)
    -- 'then a short output with 30'
    ∷ (writes run (unwritten 15) is no_room_to_write (unwritten 15))
    ∷ (writes [] [] is written_to 0 [])
    -- 'a run that ends early, with 29, naming the place of the first bad message's direction': by its last dword, by
    -- all behind the direction, and inside the first message. 29 is before 30
    ∷ (map (λ k. writes (take k run) (unwritten 18)) (6 ∷ 5 ∷ 3 ∷ [])
    is bad_run missing 4 (unwritten 18) ∷ bad_run missing 4 (unwritten 18) ∷ bad_run missing 0 (unwritten 18) ∷ [])
    ∷ (writes (take 6 run) [] is bad_run missing 4 [])
    -- 'a bad direction, L or header'
    ∷ (map (λ others. writes (run_then others) (unwritten 18))
    ((2 ∷ 1 ∷ 0x12340000 ∷ []) ∷ (0 ∷ 0 ∷ 0x12340000 ∷ []) ∷ (0 ∷ 257 ∷ dwords 257) ∷ (0 ∷ 1 ∷ 0x12340001 ∷ []) ∷ [])
    is map (λ what. bad_run what 4 (unwritten 18)) (bad_direction ∷ bad_length ∷ bad_length ∷ bad_header ∷ []))
    -- 'L runs from 1 to 256'
    ∷ (reads (bytes_of_run (1 ∷ 256 ∷ dwords 256)) (untouched 258)
    is read_to 258 (length (bytes_of_run (1 ∷ 256 ∷ dwords 256))) (1 ∷ 256 ∷ dwords 256))
    -- Ours: the second message added to the first, with room for two dwords more, with just enough, and with one less;
    -- from behind the run's end; and, before 30, a bad direction, no dword and 257, and a header that disagrees
    ∷ (adds (run_then (untouched 5)) 4 1 (0x12340000 ∷ []) is added_to 0 0 7 (run ++ untouched 2))
    ∷ (adds (run_then (untouched 3)) 4 1 (0x12340000 ∷ []) is added_to 0 0 7 run)
    ∷ (adds (run_then (untouched 2)) 4 1 (0x12340000 ∷ []) is added_to 30 0 4 (run_then (untouched 2)))
    ∷ (adds run 8 1 (0x12340000 ∷ []) is added_to 30 0 8 run)
    ∷ (adds run 7 2 (0x12340000 ∷ []) is added_to 29 bad_direction 7 run)
    ∷ (map (adds run 7 1) ([] ∷ dwords 257 ∷ (0x12340001 ∷ []) ∷ [])
    is added_to 29 bad_length 7 run ∷ added_to 29 bad_length 7 run ∷ added_to 29 bad_header 7 run ∷ [])
    -- Ours: room for a run, five bytes for a dword at most
    ∷ (write_bound 7 is 35)
    ∷ []

-- THE STATEMENT: the definitions give each
abbrev pub RecordExamples : Type 0
RecordExamples = Each records
