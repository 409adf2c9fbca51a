-- The calls of a wall (document 02, T-06 and T-08): making a table fresh, an opening, a reply. Each is its number, and then
-- what that number makes of the wall. A refusal leaves it, and the figures beside it are 0. What an opening sends is in
-- Opening.antt.
use Rattle.std.specs.Prelude.{ℕ, ◌+◌, ◌-◌, Bool, ◌&&◌, ◌||◌, cond, List, length, get_or, set, replicate, eqb, leb, ltb}
use Rattle.std.proofs.Math.Option.{Option, none, some}
use Rattle.message.specs.Types.{type_of}
use Rattle.message.specs.Header.{is_request, action_of}
use Rattle.message.specs.declared.Message.{Message}
use Rattle.ring.specs.Ring.{allowed}
use Rattle.ring.specs.Numbers.{need}
use Rattle.requests.specs.declared.record.Record.{Record}
use Rattle.requests.specs.declared.planning.Answer.{Answer}
use Rattle.requests.specs.declared.asking.Heard.{Heard}
use Rattle.requests.specs.Fence.{next_fence, first_last}
use Rattle.requests.specs.Table.{free_record, still_open, allowed_length, usable, lowest_free, place_of, set_aside}

-- what a wall is: its table, and 'the shared state', the last fence and 'the reply buffer's N'
pub record Wall : Type 0 where
  pub table : List Record
  pub last : ℕ
  pub n : ℕ

-- the wall in a table and the state's two words
abbrev pub wall_of : List Record → List ℕ → Wall
wall_of t words = record { table = t; last = get_or words 0 0; n = get_or words 1 0 }

-- what a call gives: its answer, and the wall afterwards
pub record Outcome : Type 0 where
  pub answer : Answer
  pub wall : Wall

-- the outcome in an answer, with the table and the state's words as the call leaves them
abbrev pub given : Answer → List Record → List ℕ → Outcome
given r t words = record { answer = r; wall = wall_of t words }

-- an answer is the number, then an opening's fence, or a reply's kind (the message's HXG type) with the request's action
-- and count. What a call has no part in is 0, and on a refusal all but the number is.
abbrev pub number_alone : ℕ → Answer
number_alone c = record { code = c; kind = 0; fence = 0; action = 0; count = 0 }

unfoldable pub refused : ℕ → Wall → Outcome
refused c w = record { answer = number_alone c; wall = w }

-- ---- 'A fresh .. record is free and all zeros; the last fence starts at 65,535.'

-- Of the table only its length is judged, how many records it has: nobody has made it yet. n is the N that the wall is made
-- for: 'one not allowed is 2'.
unfoldable pub fresh_number : ℕ → ℕ → ℕ
fresh_number records n = need (allowed_length records) 35 (need (allowed n) 2 0)

unfoldable pub fresh_by : ℕ → Wall → ℕ → Outcome
fresh_by c w n =
    cond (eqb c 0)
    (record {
      answer = number_alone 0;
      wall = record { table = replicate (length w.table) free_record; last = first_last; n = n };
    })
    (refused c w)

abbrev pub fresh : Wall → ℕ → Outcome
fresh w n = fresh_by (fresh_number (length w.table) n) w n

-- ---- what an opening and a reply need first: 35 'before all else'; then the reply buffer's N, 'one not allowed is 2 in
-- every call'

unfoldable pub wall_needs : Wall → ℕ → ℕ
wall_needs w later = need (usable w.table) 35 (need (allowed w.n) 2 later)

-- ---- 'Opening now takes a request message .. and sends it whole with the picked fence'

-- 'The order is 35, 2, 14, 27, 26, 28, the ring's own.' This is the number but for the ring's own, of a message m and the
-- reply dwords set aside for it: '0 to 256 (an opening with more is 14)', 'malformed or another type: 27', 'full is 26',
-- and 28 'exactly when the dwords set aside by all open requests plus its own exceed that buffer's N - 1'
unfoldable pub open_number : Wall → ℕ → List ℕ → ℕ
open_number w room m =
    wall_needs w
    (need (leb room 256) 14
    (need (is_request m) 27
    (need (ltb (lowest_free w.table) (length w.table)) 26
    (need (leb (set_aside w.table + room) (w.n - 1)) 28 0))))

-- it 'picks the next fence'
unfoldable pub picked_fence : Wall → ℕ
picked_fence w = next_fence (still_open w.table) w.last

-- an open record, not answered busy yet
abbrev pub open_record : ℕ → ℕ → ℕ → Record
open_record fence action room = record { is_open = 1; fence = fence; action = action; count = 0; room = room }

-- an opening whose number is c, the ring's own among them: it 'uses the lowest free record', with the action of the message
-- sent (its second dword is the caller's); 'An opening answers its fence', which is the last one used from then on.
-- 'if the ring refuses, table and last fence stay'
unfoldable pub open_by : ℕ → Wall → ℕ → List ℕ → Outcome
open_by c w room m =
    cond (eqb c 0)
    (record {
      answer = record { code = 0; kind = 0; fence = picked_fence w; action = 0; count = 0 };
      wall = record {
        table = set w.table (lowest_free w.table) (open_record (picked_fence w) (action_of (get_or m 1 0)) room);
        last = picked_fence w;
        n = w.n;
      };
    })
    (refused c w)

-- an opening where the ring answers the whole send with this number
abbrev pub opening : Wall → ℕ → List ℕ → ℕ → Outcome
opening w room m ring = open_by (cond (eqb (open_number w room m) 0) ring (open_number w room m)) w room m

-- ---- replies

-- 'success or failure', 'busy', 'retry', by document 01's types: 3 busy, 5 retry, 6 failure, 7 success
unfoldable pub is_reply : ℕ → Bool
is_reply kind = eqb kind 3 || eqb kind 5 || eqb kind 6 || eqb kind 7

-- 35 and 2; then the number that refused the message already; then 27: 'A reply with no open fence, or a message of
-- another type'
unfoldable pub reply_number : Wall → Heard → ℕ
reply_number w h =
    wall_needs w (need (eqb h.code 0) h.code (need (still_open w.table h.fence && is_reply h.kind) 27 0))

-- 'busy adds one to its count (stopping at 65,535)'
unfoldable pub counted : ℕ → ℕ
counted n = cond (ltb n 65535) (n + 1) n

unfoldable pub count_after : ℕ → ℕ → ℕ
count_after kind n = cond (eqb kind 3) (counted n) n

-- 'success or failure .. closes it', 'retry closes it': 'closed .. is free and all zeros'. Busy leaves it open, with the
-- new count and what was set aside for it.
unfoldable pub record_after : ℕ → Record → Record
record_after kind r =
    cond (eqb kind 3)
    (record {
      is_open = r.is_open;
      fence = r.fence;
      action = r.action;
      count = counted r.count;
      room = r.room;
    })
    free_record

-- 'a reply, its kind and the request's action and count (this busy in it)', of the record that it answers
unfoldable pub answer_of : ℕ → Record → Answer
answer_of kind r =
    record { code = 0; kind = kind; fence = 0; action = r.action; count = count_after kind r.count }

unfoldable pub reply_at : ℕ → ℕ → Wall → Outcome
reply_at at kind w =
    record {
      answer = answer_of kind (get_or w.table at free_record);
      wall = record {
        table = set w.table at (record_after kind (get_or w.table at free_record));
        last = w.last;
        n = w.n;
      };
    }

unfoldable pub reply_by : ℕ → Heard → Wall → Outcome
reply_by c h w = cond (eqb c 0) (reply_at (place_of h.fence w.table) h.kind w) (refused c w)

abbrev pub replying : Wall → Heard → Outcome
replying w h = reply_by (reply_number w h) h w

-- what is heard of a message: 0 with its HXG type and its fence, 'of any origin', or 4 where it is malformed
unfoldable pub heard_of : Option Message → Heard
heard_of none = record { code = 4; kind = 0; fence = 0 }
heard_of (some m) = record { code = 0; kind = type_of m.body; fence = m.fence }

-- a reply: a received message as it unpacks, none where it is malformed
abbrev pub reply : Wall → Option Message → Outcome
reply w received = replying w (heard_of received)
