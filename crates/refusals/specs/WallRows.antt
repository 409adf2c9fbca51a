-- The table goes on: the rows of a wall, to be laid beside document 02's T-06 and T-08, and the tests that its calls make.
-- As in Table.antt, a row speaks of the call's inputs alone, never of another row.
use Rattle.std.specs.Prelude.{ℕ, ◌+◌, ◌-◌, Bool, true, not, ◌&&◌, ◌||◌, cond, length, get_or, eqb, leb, ltb}
use mathlib.Core.List.{List, [], ◌∷◌, ◌++◌, foldr, map}
use Rattle.message.specs.Fields.{fence, type, field_of}
use Rattle.message.specs.Types.{type_of}
use Rattle.message.specs.Header.{is_message}
use Rattle.message.specs.declared.Message.{Message}
use Rattle.ring.specs.Ring.{allowed}
use Rattle.channel.specs.State.{State}
use Rattle.channel.specs.Operations.{send_whole}
use Rattle.requests.specs.Table.{is_open, still_open, fence_twice}
use Rattle.requests.specs.Calls.{Wall, is_reply}
use Rattle.requests.specs.Opening.{sent_for}
use Rattle.requests.specs.declared.record.Record.{Record}
use Rattle.refusals.specs.Order.{Row, row}
use Rattle.refusals.specs.Table.{row_4, operation_rows}

-- ---- 'No.', 'Given exactly when'

-- 2 (T-08) 'the reply buffer's N (one not allowed is 2 in every call)'
abbrev pub row_2_reply : ℕ → Row
row_2_reply n = row 2 (not (allowed n))

-- 14 (T-08) 'the reply dwords set aside for it, 0 to 256 (an opening with more is 14)'
abbrev pub row_14_room : ℕ → Row
row_14_room room = row 14 (ltb 256 room)

-- 26 (T-06) 'full': an opening finds no free record, every one is open
unfoldable pub all_open : List Record → Bool
all_open [] = true
all_open (r ∷ t) = is_open r && all_open t

abbrev pub row_26 : List Record → Row
row_26 t = row 26 (all_open t)

-- 27 (T-06) 'A reply with no open fence, or a message of another type', by its type and its fence: those of a decoded
-- message, or what a received one holds in those fields of its HXG dword 0 and of its header
abbrev pub row_27 : List Record → ℕ → ℕ → Row
row_27 t kind f = row 27 (not (still_open t f) || not (is_reply kind))

abbrev pub row_27_message : List Record → Message → Row
row_27_message t m = row_27 t (type_of m.body) m.fence

abbrev pub row_27_dwords : List Record → List ℕ → Row
row_27_dwords t dwords = row_27 t (field_of type (get_or dwords 1 0)) (field_of fence (get_or dwords 0 0))

-- 27 (T-08) 'a request message (malformed or another type: 27)': by document 01's table a request has type 0
abbrev pub row_27_request : List ℕ → Row
row_27_request message = row 27 (not (is_message message) || not (eqb (field_of type (get_or message 1 0)) 0))

-- 28 (T-08) 'exactly when the dwords set aside by all open requests plus its own exceed that buffer's N - 1'
unfoldable pub open_ones : List Record → List Record
open_ones [] = []
open_ones (r ∷ t) = cond (is_open r) (r ∷ open_ones t) (open_ones t)

abbrev pub sum : List ℕ → ℕ
sum = foldr ◌+◌ 0

abbrev pub row_28 : List Record → ℕ → ℕ → Row
row_28 t n own = row 28 (ltb (n - 1) (sum (map (λ r. r.room) (open_ones t)) + own))

-- 35 (T-06) 'Another table length, or two open records with one fence', of 'a lent table of 1 to 256 request records'.
-- Of a table that is made fresh only the length is asked: what it held nobody has made yet
abbrev pub other_length : List Record → Bool
other_length t = not (leb 1 (length t) && leb (length t) 256)

abbrev pub row_35 : List Record → Row
row_35 t = row 35 (other_length t || fence_twice t)

abbrev pub row_35_length : List Record → Row
row_35_length t = row 35 (other_length t)

-- ---- which rows each call has: tests, one after another, since numbers are tested out of their order

-- making a wall fresh for a reply buffer of N: 2 is of the N that is asked for
abbrev pub fresh_tests : Wall → ℕ → List (List Row)
fresh_tests w n = (row_35_length w.table ∷ []) ∷ (row_2_reply n ∷ []) ∷ []

-- an opening or a reply: 35 'before all else', then 2 'in every call', then what it has of its own
abbrev pub wall_tests : Wall → List (List Row) → List (List Row)
wall_tests w own = (row_35 w.table ∷ []) ∷ (row_2_reply w.n ∷ []) ∷ own

-- an opening: 'The order is 35, 2, 14, 27, 26, 28, ..', what a wall refuses by itself
abbrev pub request_tests : Wall → ℕ → List ℕ → List (List Row)
request_tests w room m =
    wall_tests w
    ((row_14_room room ∷ []) ∷ (row_27_request m ∷ []) ∷ (row_26 w.table ∷ []) ∷ (row_28 w.table w.n room ∷ []) ∷ [])

-- '.. the ring's own': those of a whole send of the message 'with the picked fence'. (Its 4 applies to no message that is
-- past 27.)
abbrev pub send_request_tests : Wall → ℕ → List ℕ → State → List ℕ → List ℕ → List (List Row)
send_request_tests w room m s d b = request_tests w room m ++ (operation_rows (send_whole (sent_for w m)) s d b ∷ [])

-- a decoded reply, and a received one, which is unpacked first: 'refuses a malformed one by 4'
abbrev pub reply_message_tests : Wall → Message → List (List Row)
reply_message_tests w m = wall_tests w ((row_27_message w.table m ∷ []) ∷ [])

abbrev pub reply_dwords_tests : Wall → List ℕ → List (List Row)
reply_dwords_tests w dwords = wall_tests w ((row_4 dwords ∷ []) ∷ (row_27_dwords w.table dwords ∷ []) ∷ [])
