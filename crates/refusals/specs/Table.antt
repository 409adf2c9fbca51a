-- Document 01, 'The numbers that say no', to be laid beside its table: a row for each number, in its order and words,
-- then those that document 02 adds, then which rows each call has; those of a wall are in WallRows.antt.
-- A row speaks of the call's inputs alone, never of another row: which of those that apply is the answer, Order.antt
-- and Refusals.antt say.
use Rattle.std.specs.Prelude.{ℕ, ◌+◌, ◌-◌, ◌*◌, Bool, not, ◌&&◌, ◌||◌, List, [], ◌∷◌, ◌++◌, length, get_or, eqb, leb, ltb}
use Rattle.message.specs.Fields.{fit}
use Rattle.message.specs.Header.{well_formed, is_message}
use Rattle.message.specs.Packing.{header_fields, hxg_fields}
use Rattle.message.specs.declared.Message.{Message}
use Rattle.ring.specs.Ring.{allowed, used, free, head, tail, status, good}
use Rattle.ring.specs.AtOnce.{length_at, message_at}
use Rattle.channel.specs.State.{State, idle, active_send, active_receive, header, second}
use Rattle.channel.specs.Operations.{Op, send_look, send_move, send_publish, send_whole}
use Rattle.channel.specs.Operations.{receive_look, receive_move, receive_publish, receive_whole}
use Rattle.firmware.specs.Css
use Rattle.firmware.specs.Cpd
use Rattle.refusals.specs.Order.{Row, row}

-- ---- the table: 'No.', 'Given exactly when'

-- 1 'descriptor is not 16 dwords'
abbrev pub row_1 : List ℕ → Row
row_1 desc = row 1 (not (eqb (length desc) 16))

-- 2 'N not allowed'
abbrev pub row_2 : List ℕ → Row
row_2 buf = row 2 (not (allowed (length buf)))

-- 3 'state doesn't fit': 'idle (.., asked only to look or for a whole call) or active (asked only to go on)'
abbrev pub fits : Op → ℕ → State → Bool
fits (send_look m) n s = idle n s
fits send_move n s = active_send n s
fits send_publish n s = active_send n s
fits (send_whole m) n s = idle n s
fits receive_look n s = idle n s
fits receive_move n s = active_receive n s
fits (receive_publish o) n s = active_receive n s
fits (receive_whole o) n s = idle n s

abbrev pub row_3 : Op → State → List ℕ → Row
row_3 op s buf = row 3 (not (fits op (length buf) s))

-- 4 'message to send or unpack is malformed'
abbrev pub row_4 : List ℕ → Row
row_4 message = row 4 (not (is_message message))

-- 5 'output shorter than 256 (whole receive, receive's publish)'
abbrev pub row_5 : List ℕ → Row
row_5 output = row 5 (ltb (length output) 256)

-- 6 'look finds STATUS not 0'
abbrev pub row_6 : List ℕ → Row
row_6 desc = row 6 (not (eqb (status desc) good))

-- 7 'look finds HEAD or TAIL at least N'
abbrev pub row_7 : List ℕ → List ℕ → Row
row_7 desc buf = row 7 (leb (length buf) (head desc) || leb (length buf) (tail desc))

-- 8 'sender's own tail is not TAIL, or receiver's own head is not HEAD'
abbrev pub row_8_send : State → List ℕ → Row
row_8_send s desc = row 8 (not (eqb s.own (tail desc)))

abbrev pub row_8_receive : State → List ℕ → Row
row_8_receive s desc = row 8 (not (eqb s.own (head desc)))

-- 'used = (TAIL - HEAD) mod N; free = N - 1 - used', of the lent descriptor and buffer
abbrev pub used_in : List ℕ → List ℕ → ℕ
used_in desc buf = used (length buf) (head desc) (tail desc)

abbrev pub free_in : List ℕ → List ℕ → ℕ
free_in desc buf = free (length buf) (head desc) (tail desc)

-- 9 'ring not empty and L exceeds used, at a receive's look': L by the header at the own head
abbrev pub row_9 : State → List ℕ → List ℕ → Row
row_9 s desc buf = row 9 (not (eqb (used_in desc buf) 0) && ltb (used_in desc buf) (length_at s.own buf))

-- 10 'L exceeds free, at a send's look': a message has exactly L dwords
abbrev pub row_10 : List ℕ → List ℕ → List ℕ → Row
row_10 message desc buf = row 10 (ltb (free_in desc buf) (length message))

-- 11 'nothing pending'
abbrev pub row_11 : List ℕ → List ℕ → Row
row_11 desc buf = row 11 (eqb (used_in desc buf) 0)

-- 12 'publish before L dwords moved, or a move after L'
abbrev pub row_12_publish : State → Row
row_12_publish s = row 12 (ltb s.moved s.len)

abbrev pub row_12_move : State → Row
row_12_move s = row 12 (leb s.len s.moved)

-- 13 'received message whole but malformed': at a publish the copied one, all L dwords of it moved; in a whole receive
-- the pending one at the own head
abbrev pub row_13_publish : State → Row
row_13_publish s = row 13 (leb s.len s.moved && not (well_formed (header s) (second s)))

abbrev pub is_whole : State → List ℕ → List ℕ → Bool
is_whole s desc buf = not (eqb (used_in desc buf) 0) && leb (length_at s.own buf) (used_in desc buf)

abbrev pub row_13_whole : State → List ℕ → List ℕ → Row
row_13_whole s desc buf =
    row 13 (is_whole s desc buf && not (well_formed (get_or buf s.own 0) (get_or (message_at s.own buf) 1 0)))

-- 14 'field too wide, NUM_DWORDS 0, or name to seek not 1 to 12 bytes without a zero'
abbrev pub row_14_fields : Message → Row
row_14_fields m = row 14 (not (fit (header_fields m)) || not (fit (hxg_fields m)) || eqb m.num_dwords 0)

abbrev pub row_14_name : List ℕ → Row
row_14_name name = row 14 (not (Cpd.is_name name))

-- 15 'blob or part too short for its header': the bytes that each kind needs
abbrev pub row_15 : ℕ → List ℕ → Row
row_15 needed blob = row 15 (ltb (length blob) needed)

-- 16 'CSS sizes disagree'
abbrev pub row_16 : List ℕ → Row
row_16 blob = row 16 (not (Css.agree (Css.sizes blob)))

-- 17 'CSS part lies beyond the blob': 'Bytes 128 + 4(s - h) + 4k must be there'
abbrev pub row_17 : List ℕ → Row
row_17 blob =
    row 17 (ltb (length blob) (128 + 4 * ((Css.sizes blob).s - (Css.sizes blob).h) + 4 * (Css.sizes blob).k))

-- 18 'CPD marker wrong or header length below 20'
abbrev pub row_18 : List ℕ → Row
row_18 blob = row 18 (not (Cpd.has_marker blob) || ltb (Cpd.header_length blob) 20)

-- 19 'CPD entries lie beyond the blob': 'H + 24n bytes must be there'
abbrev pub row_19 : List ℕ → Row
row_19 blob = row 19 (ltb (length blob) (Cpd.header_length blob + 24 * Cpd.count blob))

-- whether there is a number below n of which p holds
abbrev pub any : (ℕ → Bool) → ℕ → Bool
any p n = not (Cpd.all (λ i. not (p i)) n)

-- 20 'no entry of that name': not one of the n entries has it
abbrev pub row_20 : List ℕ → List ℕ → Row
row_20 blob name = row 20 (not (any (Cpd.has_name blob name) (Cpd.count blob)))

-- ours, for an entry by its index: there is no such entry
abbrev pub row_20_index : List ℕ → ℕ → Row
row_20_index blob i = row 20 (leb (Cpd.count blob) i)

-- 21 'entry's part lies beyond the blob', of entry i, where there is one
abbrev pub row_21 : List ℕ → ℕ → Row
row_21 blob i =
    row 21 (ltb i (Cpd.count blob) && ltb (length blob) (Cpd.entry_part blob (Cpd.entry_start blob i)).to)

-- ---- what the requests of document 02 add: 'From here on, demand 1 and document 01's table and order include what a request adds.'
-- The rows of a wall (T-06, T-08) are in WallRows.antt.

-- 22 (T-03) 'when more than one entry has it', the name sought: one of the n entries, and one before that
abbrev pub row_22 : List ℕ → List ℕ → Row
row_22 blob name = row 22 (any (λ j. Cpd.has_name blob name j && any (Cpd.has_name blob name) j) (Cpd.count blob))

-- ---- which rows each call has

-- 'Numbers 6 to 11 belong to looks'
abbrev pub send_looks : State → List ℕ → List ℕ → List ℕ → List Row
send_looks s m d b = row_6 d ∷ row_7 d b ∷ row_8_send s d ∷ row_10 m d b ∷ []

abbrev pub receive_looks : State → List ℕ → List ℕ → List Row
receive_looks s d b = row_6 d ∷ row_7 d b ∷ row_8_receive s d ∷ row_9 s d b ∷ row_11 d b ∷ []

-- what each operation has beside 1, 2 and 3
abbrev pub own_rows : Op → State → List ℕ → List ℕ → List Row
own_rows (send_look m) s d b = row_4 m ∷ send_looks s m d b
own_rows send_move s d b = row_12_move s ∷ []
own_rows send_publish s d b = row_12_publish s ∷ []
own_rows (send_whole m) s d b = row_4 m ∷ send_looks s m d b
own_rows receive_look s d b = receive_looks s d b
own_rows receive_move s d b = row_12_move s ∷ []
own_rows (receive_publish o) s d b = row_5 o ∷ row_12_publish s ∷ row_13_publish s ∷ []
own_rows (receive_whole o) s d b = row_5 o ∷ receive_looks s d b ++ (row_13_whole s d b ∷ [])

abbrev pub operation_rows : Op → State → List ℕ → List ℕ → List Row
operation_rows op s d b = row_1 d ∷ row_2 b ∷ row_3 op s b ∷ own_rows op s d b

-- 'It refuses by 1, then 2'
abbrev pub opening_rows : List ℕ → List ℕ → List Row
opening_rows d b = row_1 d ∷ row_2 b ∷ []

-- 'CSS: at least 128 bytes, else 15. .. else 16. .. else 17.'
abbrev pub image_rows : List ℕ → List Row
image_rows blob = row_15 128 blob ∷ row_16 blob ∷ row_17 blob ∷ []

-- 'CPD: at least 20 bytes, else 15'
abbrev pub directory_rows : List ℕ → List Row
directory_rows blob = row_15 20 blob ∷ row_18 blob ∷ row_19 blob ∷ []

-- the tests of a name sought, one after another: 22 is 'tested after 20 and before 21'. A number that is tested out of
-- its order is a test of its own; 21 is of the first entry that has the name, which by then is the only one
abbrev pub seek_tests : List ℕ → List ℕ → List (List Row)
seek_tests blob name =
    (row_14_name name ∷ directory_rows blob ++ (row_20 blob name ∷ []))
    ∷ (row_22 blob name ∷ [])
    ∷ (row_21 blob (Cpd.first_entry blob name) ∷ [])
    ∷ []

-- ours: an entry by its index
abbrev pub entry_rows : List ℕ → ℕ → List Row
entry_rows blob i = directory_rows blob ++ (row_20_index blob i ∷ row_21 blob i ∷ [])

-- '`HUCP.man` is a manifest: .. 44 bytes are needed, else 15'
abbrev pub manifest_rows : List ℕ → List Row
manifest_rows part = row_15 44 part ∷ []
