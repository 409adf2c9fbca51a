-- The worked examples of document 01, 'Both sides of each line': one table, and the statement that the definitions give
-- each of its rows. Every line marked P is here, each row under the paper's words, and what a request of document 02
-- changes. A comment that starts with `Ours` marks rows that no paper has.
use Rattle.std.specs.Prelude.{ℕ, ◌-◌, Bool, true, false, List, [], ◌∷◌, ◌++◌, map, length, take, replicate}
use Rattle.std.proofs.Math.Option.{none, some}
use Rattle.message.specs.Packing.{Answer, pack_answer, unpack_answer}
use Rattle.message.specs.declared.Message.{Message}
use Rattle.message.specs.declared.Origin.TheVariants.{Host, Guc}
use Rattle.message.specs.declared.Body.TheVariants.{Request, Event, FastRequest, Busy, Retry, Failure, Success}
use Rattle.runs.specs.TwoRuns.{first_count, second_count, stored_runs, read_runs}
use Rattle.ring.specs.Ring.{head, tail, free}
use Rattle.channel.specs.State.{State, state, idle_at}
use Rattle.channel.specs.Outcome.{Outcome, refused}
use Rattle.channel.specs.Opening.{Opening, opening}
use Rattle.channel.specs.Steps.{moves, next_place}
use Rattle.channel.specs.Send
use Rattle.channel.specs.Receive
use Rattle.firmware.specs.Css
use Rattle.firmware.specs.Cpd
use Rattle.firmware.specs.Inside.{huc_name, huc_located, manifest_name}
use Rattle.firmware.specs.Version.{Reading, huc_reading, manifest_reading}
use Rattle.firmware.specs.declared.css.Component.{Component}
use Rattle.firmware.specs.declared.css.Component.TheVariants.{Ucode, Rsa, Modulus, Exponent}
use Rattle.examples.specs.Example.{Example, ◌is◌, Each}
use Rattle.examples.specs.Walls.{walls}
use Rattle.examples.specs.Inputs.{message, count_up, dwords, two_dwords, descriptor_with, untouched, buffer}
use Rattle.examples.specs.Inputs.{buffer_of, buffer_with, image, entry_bytes, directory_of, directory}

-- ---- how a row says an answer

-- packed: 0 with the two dwords; unpacked: 0 with the message; refused: a number with no dword, or with no message
abbrev pub packed : ℕ → ℕ → Answer (ℕ × ℕ)
packed header word = record { number = 0; value = some (header, word) }

abbrev pub unpacked : Message → Answer Message
unpacked m = record { number = 0; value = some m }

abbrev pub refused_pack : ℕ → Answer (ℕ × ℕ)
refused_pack n = record { number = n; value = none }

abbrev pub refused_unpack : ℕ → Answer Message
refused_unpack n = record { number = n; value = none }

-- 0 with the next state, the descriptor and the buffer; `refused` of the channel is a number with those three
abbrev pub accepted : State → List ℕ → List ℕ → Outcome
accepted s d b = record { code = 0; len = 0; next = s; desc = d; buf = b; out = [] }

-- a whole receive's number and L, with the next state, the descriptor, the buffer and the output
abbrev pub receives : ℕ → ℕ → State → List ℕ → List ℕ → List ℕ → Outcome
receives c l s d b o = record { code = c; len = l; next = s; desc = d; buf = b; out = o }

-- 0 with both sides' states, the descriptor and the buffer
abbrev pub opens : State → State → List ℕ → List ℕ → Opening
opens s r d b = record { code = 0; sender = s; receiver = r; desc = d; buf = b }

-- a copy with these dwords in front
abbrev pub copy_of : List ℕ → List ℕ
copy_of front = front ++ replicate (256 - length front) 0

-- free by a descriptor's HEAD and TAIL
abbrev pub free_by : List ℕ → ℕ
free_by d = free 1024 (head d) (tail d)

-- the dwords of the first and of the second run of k from place i on, at N = 1,024
abbrev pub run_counts : ℕ → ℕ → ℕ × ℕ
run_counts i k = (first_count 1024 i k, second_count 1024 i k)

-- a part: the byte where it starts, and the byte where it ends, which is excluded
abbrev pub Part : Type 0
Part = ℕ × ℕ

abbrev pub empty_part : Part
empty_part = (0, 0)

-- a component of an image
abbrev pub part : Component → List ℕ → Part
part which b = ((Css.part which b).from, (Css.part which b).to)

-- an image's number, whether it is truncated, its uCode, RSA, modulus and exponent
abbrev pub css : List ℕ → ℕ × Bool × Part × Part × Part × Part
css b = ((Css.answer b).code, (Css.answer b).truncated, part Ucode b, part Rsa b, part Modulus b, part Exponent b)

-- the number of seeking `huc_fw` in a directory, and its part
abbrev pub cpd : List ℕ → ℕ × Part
cpd b = (Cpd.number b huc_name, ((Cpd.part b huc_name).from, (Cpd.part b huc_name).to))

-- entries of those two names, the manifest's part at byte 0
abbrev pub huc : ℕ → ℕ → List ℕ
huc start long = entry_bytes huc_name start long

abbrev pub man : ℕ → List ℕ
man long = entry_bytes manifest_name 0 long

-- a version's reading that is refused
abbrev pub no_version : ℕ → Reading
no_version n = record { number = n; version = [] }

-- ---- channels that several rows speak of

-- opened over a descriptor with other numbers in it
unfoldable pub fresh_channel : Opening
fresh_channel = opening (descriptor_with 700 300 4) buffer

-- after one whole send of 256 dwords, after two, after three, and after one of 255 more
unfoldable pub once : Outcome
once = accepted (idle_at 1024 256) (0 ∷ 256 ∷ replicate 14 0) (dwords 256 ++ untouched 768)

unfoldable pub twice : Outcome
twice = accepted (idle_at 1024 512) (0 ∷ 512 ∷ replicate 14 0) (dwords 256 ++ dwords 256 ++ untouched 512)

unfoldable pub thrice : Outcome
thrice = accepted (idle_at 1024 768) (0 ∷ 768 ∷ replicate 14 0) (dwords 256 ++ dwords 256 ++ dwords 256 ++ untouched 256)

unfoldable pub full : Outcome
full =
    accepted (idle_at 1024 1023) (0 ∷ 1023 ∷ replicate 14 0)
    (dwords 256 ++ dwords 256 ++ dwords 256 ++ dwords 255 ++ untouched 1)

-- a whole send on what the one before left
abbrev pub send_after : Outcome → List ℕ → Outcome
send_after x m = Send.whole x.next m x.desc x.buf

-- a send of 8 dwords at offsets 1,020: its look, and k stores after it
unfoldable pub stores : ℕ → Outcome
stores k = moves Send.move k (Send.look (idle_at 1024 1020) (dwords 8) (descriptor_with 1020 1020 0) buffer)

-- the buffer afterwards, place by place
unfoldable pub around : List ℕ
around = 4 ∷ 5 ∷ 6 ∷ 7 ∷ untouched 1016 ++ (0x12340007 ∷ 0x00000000 ∷ 2 ∷ 3 ∷ [])

-- ---- THE TABLE

unfoldable pub table : List Example
table =
    -- 'P Fence 0x1234, NUM_DWORDS 1: 0x12340001.'
    (pack_answer (message Host 0x1234 1 (Request 0 0)) is packed 0x12340001 0x00000000)
    -- 'P GuC success, data 0: 0xF0000000.'
    ∷ (pack_answer (message Guc 0x1234 1 (Success 0)) is packed 0x12340001 0xF0000000)
    -- 'P GuC failure, hint 0x0AB, error 0x10: 0xE0AB0010.'
    ∷ (pack_answer (message Guc 0x1234 1 (Failure 0x0AB 0x10)) is packed 0x12340001 0xE0AB0010)
    -- 'Data 0x1000 in a request: 14.'
    ∷ (pack_answer (message Host 0x1234 1 (Request 0x1000 0)) is refused_pack 14)
    -- Ours: the same lines unpacked, and the widest data of a request.
    ∷ (unpack_answer (0x12340001 ∷ 0xF0000000 ∷ []) is unpacked (message Guc 0x1234 1 (Success 0)))
    ∷ (unpack_answer (0x12340001 ∷ 0xE0AB0010 ∷ []) is unpacked (message Guc 0x1234 1 (Failure 0x0AB 0x10)))
    ∷ (pack_answer (message Host 0x1234 1 (Request 0xFFF 0)) is packed 0x12340001 0x0FFF0000)
    -- Ours: document 02's fast request. Origin 0 and type 2 are the first hex digit, 2; data 0x0AB the three after it,
    -- action 0x4601 the last four.
    ∷ (pack_answer (message Host 0x1234 1 (FastRequest 0x0AB 0x4601)) is packed 0x12340001 0x20AB4601)
    ∷ (unpack_answer (two_dwords 0x20AB4601) is unpacked (message Host 0x1234 1 (FastRequest 0x0AB 0x4601)))
    -- Ours: the same digits with type 4; and a word of each type that has none above. With origin 1 the first digit is
    -- 8 more than the type.
    ∷ (unpack_answer (two_dwords 0x40AB4601) is refused_unpack 4)
    ∷ (pack_answer (message Guc 0x1234 1 (Event 0x001 0x1000)) is packed 0x12340001 0x90011000)
    ∷ (pack_answer (message Guc 0x1234 1 (Busy 5)) is packed 0x12340001 0xB0000005)
    ∷ (pack_answer (message Guc 0x1234 1 (Retry 1)) is packed 0x12340001 0xD0000001)
    -- 'P N = 1,024 fresh: free 1,023.'
    ∷ (free_by fresh_channel.desc is 1023)
    -- Ours: all that such an opening gives.
    ∷ (fresh_channel is opens (idle_at 1024 0) (idle_at 1024 0) (replicate 16 0) buffer)
    -- 'P After 256 three times, free 255: ..'
    ∷ (Send.whole fresh_channel.sender (dwords 256) fresh_channel.desc fresh_channel.buf is once)
    ∷ (send_after once (dwords 256) is twice)
    ∷ (send_after twice (dwords 256) is thrice)
    ∷ (free_by thrice.desc is 255)
    -- '.. 256 gets 10, ..'
    ∷ (send_after thrice (dwords 256) is refused 10 thrice.next thrice.desc thrice.buf [])
    -- '.. 255 is accepted, free 0.'
    ∷ (send_after thrice (dwords 255) is full)
    ∷ (free_by full.desc is 0)
    -- Ours: then not even 2 are accepted.
    ∷ (send_after full (dwords 2) is refused 10 full.next full.desc full.buf [])
    -- 'P N = 1,024, offsets 1,020, L = 8: stores at 1,020 to 1,023 and 0 to 3, ..'
    ∷ (map (λ k. next_place (stores k).next (stores k).buf) (count_up 0 8)
    is 1020 ∷ 1021 ∷ 1022 ∷ 1023 ∷ 0 ∷ 1 ∷ 2 ∷ 3 ∷ [])
    ∷ (stores 8 is accepted (state 1024 1020 8 8 (dwords 8 ++ replicate 248 0)) (descriptor_with 1020 1020 0) around)
    -- '.. TAIL 4.'
    ∷ (Send.publish_after (stores 8) is accepted (idle_at 1024 4) (descriptor_with 1020 4 0) around)
    ∷ (Send.whole (idle_at 1024 1020) (dwords 8) (descriptor_with 1020 1020 0) buffer
    is accepted (idle_at 1024 4) (descriptor_with 1020 4 0) around)
    -- T-07, '.. in at most two straight runs': the same message stored and read. Ours: 8 that end one place before the
    -- end and at it are one run, one place further the last is the second run; the end between the judged dwords, and
    -- behind them.
    ∷ (run_counts 1020 8 is (4, 4))
    ∷ (stored_runs buffer 1020 (dwords 8) is around)
    ∷ (read_runs around 1020 8 is dwords 8)
    ∷ (run_counts 1015 8 is (8, 0))
    ∷ (run_counts 1016 8 is (8, 0))
    ∷ (run_counts 1017 8 is (7, 1))
    ∷ (run_counts 1023 2 is (1, 1))
    ∷ (run_counts 1023 256 is (1, 255))
    ∷ (run_counts 1022 256 is (2, 254))
    -- 'P TAIL 1,024 at N = 1,024: 7, STATUS 1.', at a send's look and at a receive's
    ∷ (Send.look (idle_at 1024 0) (dwords 2) (descriptor_with 0 1024 0) buffer
    is refused 7 (idle_at 1024 0) (descriptor_with 0 1024 1) buffer [])
    ∷ (Receive.look (idle_at 1024 0) (descriptor_with 0 1024 0) buffer is refused 7 (idle_at 1024 0) (descriptor_with 0 1024 1) buffer [])
    -- 'Own tail 8, TAIL 12: 8, STATUS 4.'
    ∷ (Send.look (idle_at 1024 8) (dwords 2) (descriptor_with 0 12 0) buffer is refused 8 (idle_at 1024 8) (descriptor_with 0 12 4) buffer [])
    -- 'STATUS 8: 6.', at both looks
    ∷ (Send.look (idle_at 1024 0) (dwords 2) (descriptor_with 0 0 8) buffer is refused 6 (idle_at 1024 0) (descriptor_with 0 0 8) buffer [])
    ∷ (Receive.look (idle_at 1024 0) (descriptor_with 0 0 8) buffer is refused 6 (idle_at 1024 0) (descriptor_with 0 0 8) buffer [])
    -- 'P Header 0x00000005 with 3 used: 9, STATUS 2, HEAD stays.'
    ∷ (Receive.look (idle_at 1024 8) (descriptor_with 8 11 0) (buffer_with 0x00000005)
    is refused 9 (idle_at 1024 8) (descriptor_with 8 11 2) (buffer_with 0x00000005) [])
    -- Ours: header 0x00000025, which is L 38, with 10 used is 9 too, where a length mask of five bits would read L 6;
    -- with 38 used it is accepted.
    ∷ (Receive.look (idle_at 1024 8) (descriptor_with 8 18 0) (buffer_with 0x00000025)
    is refused 9 (idle_at 1024 8) (descriptor_with 8 18 2) (buffer_with 0x00000025) [])
    ∷ (Receive.look (idle_at 1024 8) (descriptor_with 8 46 0) (buffer_with 0x00000025)
    is accepted (state 1024 8 38 1 (0x00000025 ∷ replicate 255 0)) (descriptor_with 8 46 0) (buffer_with 0x00000025))
    -- Ours: a fast request is sent and received; with type 4 in its place it is 4 for the sender, and 13 for the
    -- receiver, whose HEAD moves.
    ∷ (Send.whole (idle_at 1024 8) (two_dwords 0x20AB4601) (descriptor_with 8 8 0) buffer
    is accepted (idle_at 1024 10) (descriptor_with 8 10 0) (buffer_of (two_dwords 0x20AB4601)))
    ∷ (Receive.whole (idle_at 1024 8) (untouched 257) (descriptor_with 8 10 0) (buffer_of (two_dwords 0x20AB4601))
    is receives 0 2 (idle_at 1024 10) (descriptor_with 10 10 0) (buffer_of (two_dwords 0x20AB4601)) (two_dwords 0x20AB4601 ++ untouched 255))
    ∷ (Send.whole (idle_at 1024 8) (two_dwords 0x40AB4601) (descriptor_with 8 8 0) buffer
    is refused 4 (idle_at 1024 8) (descriptor_with 8 8 0) buffer [])
    ∷ (Receive.whole (idle_at 1024 8) (untouched 257) (descriptor_with 8 10 0) (buffer_of (two_dwords 0x40AB4601))
    is receives 13 0 (idle_at 1024 10) (descriptor_with 10 10 0) (buffer_of (two_dwords 0x40AB4601)) (untouched 257))
    -- Ours: all the stores that are left of a message of 3 dwords, with one stored and with all of them; an idle side
    -- is refused
    ∷ (Send.move_all (state 1024 8 3 1 (copy_of (dwords 3))) (descriptor_with 8 8 0) buffer
    is accepted (state 1024 8 3 3 (copy_of (dwords 3))) (descriptor_with 8 8 0) (buffer_of (0xBBBBBBBB ∷ 0 ∷ 2 ∷ [])))
    ∷ (Send.move_all (state 1024 8 3 3 (copy_of (dwords 3))) (descriptor_with 8 8 0) buffer
    is accepted (state 1024 8 3 3 (copy_of (dwords 3))) (descriptor_with 8 8 0) buffer)
    ∷ (Send.move_all (idle_at 1024 8) (descriptor_with 8 8 0) buffer is refused 3 (idle_at 1024 8) (descriptor_with 8 8 0) buffer [])
    -- Ours: all the copies that are left behind the header, of a message of 3 dwords and of one of a single dword,
    -- which has none
    ∷ (Receive.move_all (state 1024 8 3 1 (copy_of (0x12340002 ∷ []))) (descriptor_with 8 11 0) (buffer_of (dwords 3))
    is accepted (state 1024 8 3 3 (copy_of (dwords 3))) (descriptor_with 8 11 0) (buffer_of (dwords 3)))
    ∷ (Receive.move_all (state 1024 8 1 1 (copy_of (0x12340000 ∷ []))) (descriptor_with 8 9 0) (buffer_with 0x12340000)
    is accepted (state 1024 8 1 1 (copy_of (0x12340000 ∷ []))) (descriptor_with 8 9 0) (buffer_with 0x12340000))
    -- 'P k 64, m 64, e 1, h 161, s 1,161: ..'
    ∷ (map (Css.header_dword (image 4644)) (7 ∷ 8 ∷ 9 ∷ 1 ∷ 6 ∷ []) is 64 ∷ 64 ∷ 1 ∷ 161 ∷ 1161 ∷ [])
    -- Ours: the blobs have as many bytes as the lines below say.
    ∷ (map (λ n. length (image n)) (4383 ∷ 4384 ∷ 4643 ∷ 4644 ∷ []) is 4383 ∷ 4384 ∷ 4643 ∷ 4644 ∷ [])
    -- '.. uCode 128 to 4,128, RSA to 4,384, modulus to 4,640, exponent to 4,644 (ends excluded). .. 4,644: full.'
    ∷ (css (image 4644) is (0, false, (128, 4128), (4128, 4384), (4384, 4640), (4640, 4644)))
    -- 'P Blob of 4,383 bytes: 17.'
    ∷ (css (image 4383) is (17, false, empty_part, empty_part, empty_part, empty_part))
    -- '4,384 and 4,643: truncated.'
    ∷ (css (image 4384) is (0, true, (128, 4128), (4128, 4384), empty_part, empty_part))
    ∷ (css (image 4643) is (0, true, (128, 4128), (4128, 4384), empty_part, empty_part))
    -- 'CPD with H 20, n 2: 67 bytes 19; ..'
    ∷ (cpd (take 67 (directory 0)) is (19, empty_part))
    -- '.. 68 bytes, part at 68 of length 1: 21; ..'
    ∷ (length (directory 1) is 68)
    ∷ (cpd (directory 1) is (21, empty_part))
    -- '.. of length 0: an empty part.'
    ∷ (cpd (directory 0) is (0, (68, 68)))
    -- T-03: 'A supplier's CPD had two `huc_fw` entries': neighbours that differ, neighbours that are alike, the first
    -- and the last of three, and all three
    ∷ (cpd (directory_of 2 (huc 20 24 ++ huc 44 24)) is (22, empty_part))
    ∷ (cpd (directory_of 2 (huc 20 24 ++ huc 20 24)) is (22, empty_part))
    ∷ (cpd (directory_of 3 (huc 20 24 ++ man 0 ++ huc 68 24)) is (22, empty_part))
    ∷ (cpd (directory_of 3 (huc 20 24 ++ huc 44 24 ++ huc 68 24)) is (22, empty_part))
    -- T-03: 'tested after 20 and before 21': two of another name, and two whose parts lie beyond the blob of 68 bytes;
    -- a byte less is still 19
    ∷ (cpd (directory_of 2 (man 0 ++ man 0)) is (20, empty_part))
    ∷ (cpd (directory_of 2 (huc 68 1 ++ huc 68 1)) is (22, empty_part))
    ∷ (cpd (take 67 (directory_of 2 (huc 20 24 ++ huc 44 24))) is (19, empty_part))
    -- Ours: no two of one name: one that goes on behind the name, and one behind the n entries
    ∷ (cpd (directory_of 2 (huc 20 24 ++ entry_bytes (huc_name ++ (0x32 ∷ [])) 44 24)) is (0, (20, 44)))
    ∷ (cpd (directory_of 1 (huc 20 24 ++ huc 44 24)) is (0, (20, 44)))
    -- T-03: 'The manifest and CSS readings inside a directory pass 22 on and promise it.'
    ∷ (manifest_reading (directory_of 2 (man 44 ++ man 44)) is no_version 22)
    ∷ (huc_reading (directory_of 2 (huc 20 24 ++ huc 44 24)) is no_version 22)
    ∷ (map (λ which. (huc_located which (directory_of 2 (huc 20 24 ++ huc 44 24))).code) (Ucode ∷ Rsa ∷ Modulus ∷ Exponent ∷ [])
    is 22 ∷ 22 ∷ 22 ∷ 22 ∷ [])
    ∷ []

-- THE STATEMENT: the definitions give each, and each of a wall
abbrev pub Examples : Type 0
Examples = Each table × Each walls
