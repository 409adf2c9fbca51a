-- T-06, 'Prove that each call does what a plain map from fences to requests does', and T-08, 'T-06's map now carries this
-- number': one statement about whole lists of openings and replies, from any table of 16-bit fences that 35 lets pass and
-- from a fresh one, with what follows that people ask for.
use Rattle.std.specs.Prelude.{ℕ, ◌+◌, ◌-◌, ◌<◌, ◌≤◌, ◌≡◌, ◌↔◌, true, false, cond, List, [], ◌∷◌, length, get_or, set, replicate}
use Rattle.std.proofs.Math.Option.{Option, none, some}
use Rattle.message.specs.Fields.{request_action, field_of}
use Rattle.message.specs.Header.{is_request}
use Rattle.message.specs.declared.Message.{Message}
use Rattle.ring.specs.Ring.{allowed}
use Rattle.requests.specs.declared.record.Record.{Record}
use Rattle.requests.specs.declared.planning.Answer.{Answer}
use Rattle.requests.specs.Table.{is_open, has_fence, still_open, set_aside}
use Rattle.requests.specs.Calls.{Wall, Outcome, fresh}
use Rattle.matching.specs.Map.{Map, Plain, fresh_plain, further, how_many, aside_of}
use Rattle.matching.specs.Lists.{Call, open_call, reply_call, OfRing, outcome, run, end, plain_run, plain_end}
use Rattle.matching.specs.Lists.{openings, closings}
use Rattle.matching.specs.History.{held_for, still_held, sum_of}

-- ---- tables

-- 'free and all zeros', in figures
abbrev pub all_zeros : Record
all_zeros = record { is_open = 0; fence = 0; action = 0; count = 0; room = 0 }

-- the record at a place
abbrev pub at : List Record → ℕ → Record
at t i = get_or t i all_zeros

-- 'two open records with one fence'
pub record OneFenceTwice (t : List Record) : Type 0 where
  pub i : ℕ
  pub j : ℕ
  pub before : i < j
  pub inside : j < length t
  pub open_i : is_open (at t i) ≡ true
  pub open_j : is_open (at t j) ≡ true
  pub one-fence : (at t i).fence ≡ (at t j).fence

-- a table that calls take: it has neither 'Another table length' nor 'two open records with one fence'
pub record Taken (t : List Record) : Type 0 where
  pub some_records : 1 ≤ length t
  pub not_too_many : length t ≤ 256
  pub no_fence-twice : OneFenceTwice t → ⊥

-- and a fence is a 16-bit number
pub record Good (t : List Record) : Type 0 where
  pub taken : Taken t
  pub sixteen_bits : (i : ℕ) → (at t i).fence < 65536

-- the request of the open record with this fence, or none
unfoldable pub entry_in : List Record → Map
entry_in [] f = none
entry_in (r ∷ t) f =
    cond (has_fence f r) (some (record { action = r.action; count = r.count; room = r.room })) (entry_in t f)

-- how many records are open
unfoldable pub open_records : List Record → ℕ
open_records [] = 0
open_records (r ∷ t) = cond (is_open r) 1 0 + open_records t

-- the plain map of a table: as many requests as it has records
abbrev pub plain_of : Wall → Plain
plain_of w = record { most = length w.table; n = w.n; requests = entry_in w.table; last = w.last }

-- ---- the statement, of a wall w and a plain map p, after a list

pub record AsMap (w : Wall) (p : Plain) (list : List Call) : Type 0 where
  -- all answers are the map's
  pub answers : run w list ≡ plain_run p list
  -- the open records are the map's entries: each fence has in the table what it has in the map, in one record
  pub entries : (f : ℕ) → entry_in (end w list).table f ≡ (plain_end p list).requests f
  pub once : OneFenceTwice (end w list).table → ⊥
  pub as_many : open_records (end w list).table ≡ how_many (plain_end p list).requests
  -- 'T-06's map now carries this number': what all open records set aside is what the map's entries do
  pub aside : set_aside (end w list).table ≡ aside_of (plain_end p list).requests
  pub last-fence : (end w list).last ≡ (plain_end p list).last
  pub reply-buffer : (end w list).n ≡ (plain_end p list).n
  -- the table has as many records as before
  pub size : length (end w list).table ≡ length w.table

-- ---- what follows

-- a fence that is 'the next .., counting up from the last one used .., skipping fences still open'
pub record Next (isOpenAs : ℕ → Type 0) (last fence : ℕ) : Type 0 where
  pub d : ℕ
  pub counted_up : fence ≡ further last d
  pub not_open : isOpenAs fence → ⊥
  pub skipped : (k : ℕ) → k < d → isOpenAs (further last k)

-- what an opening does to a table: 'uses the lowest free record', and no other
pub record Opened (before after : List Record) (fence action room : ℕ) : Type 0 where
  pub i : ℕ
  pub inside : i < length before
  pub free : is_open (at before i) ≡ false
  pub lower_open : (j : ℕ) → j < i → is_open (at before j) ≡ true
  pub stored :
      after ≡ set before i (record { is_open = 1; fence = fence; action = action; count = 0; room = room })

-- the record with another count
abbrev pub counting : Record → ℕ → Record
counting r n =
    record { is_open = r.is_open; fence = r.fence; action = r.action; count = n; room = r.room }

-- what an accepted reply does to a table: to the record with its fence, and to no other
pub record Answered (before after : List Record) (fence : ℕ) (a : Answer) : Type 0 where
  pub i : ℕ
  pub inside : i < length before
  pub its_own : has_fence fence (at before i) ≡ true
  -- 'A .. closed record is free and all zeros'
  pub closed : (a.kind ≡ 3 → ⊥) → after ≡ set before i all_zeros
  -- busy: the count that is answered, which is the map's (`AsMap.answers`, `Map.busier`)
  pub busy : a.kind ≡ 3 → after ≡ set before i (counting (at before i) a.count)

-- 'The order is 35, 2, 14, 27, 26, 28, the ring's own.' Each number of an opening, where those before it do not apply
pub record InOrder (w : Wall) (room : ℕ) (m : List ℕ) (ring : ℕ) : Type 0 where
  pub too_wide :
      allowed w.n ≡ true → ((outcome w (open_call room m ring)).answer.code ≡ 14) ↔ (256 < room)
  pub no_request :
      allowed w.n ≡ true → room ≤ 256
      → ((outcome w (open_call room m ring)).answer.code ≡ 27) ↔ (is_request m ≡ false)
  -- 26 exactly when as many are open as the table has records
  pub full :
      allowed w.n ≡ true → room ≤ 256 → is_request m ≡ true
      → ((outcome w (open_call room m ring)).answer.code ≡ 26) ↔ (open_records w.table ≡ length w.table)
  -- 28 'exactly when the dwords set aside by all open requests plus its own exceed that buffer's N - 1'
  pub no_room :
      allowed w.n ≡ true → room ≤ 256 → is_request m ≡ true → open_records w.table < length w.table
      → ((outcome w (open_call room m ring)).answer.code ≡ 28) ↔ (w.n - 1 < set_aside w.table + room)
  pub ring-own :
      allowed w.n ≡ true → room ≤ 256 → is_request m ≡ true → open_records w.table < length w.table
      → set_aside w.table + room ≤ w.n - 1
      → (outcome w (open_call room m ring)).answer.code ≡ ring

-- of a wall, at any point of a list
pub record Follows (w : Wall) : Type 0 where
  -- no fence is given out while it is open; and it is the next
  pub next-fence :
      (room : ℕ) (m : List ℕ) (ring : ℕ) → (outcome w (open_call room m ring)).answer.code ≡ 0
      → Next (λ (f : ℕ). still_open w.table f ≡ true) w.last (outcome w (open_call room m ring)).answer.fence
  -- each accepted call stores one record, at the place that the request names: an opening the action in its message
  pub opened :
      (room : ℕ) (m : List ℕ) (ring : ℕ) → (outcome w (open_call room m ring)).answer.code ≡ 0
      → Opened w.table (outcome w (open_call room m ring)).wall.table
      (outcome w (open_call room m ring)).answer.fence (field_of request_action (get_or m 1 0)) room
  pub answered :
      (m : Message) → (outcome w (reply_call (some m))).answer.code ≡ 0
      → Answered w.table (outcome w (reply_call (some m))).wall.table m.fence
      (outcome w (reply_call (some m))).answer
  -- a reply never closes another's request, nor touches it: every other fence has what it had
  pub only_its_own :
      (m : Message) (g : ℕ) → (g ≡ m.fence → ⊥)
      → entry_in (outcome w (reply_call (some m))).wall.table g ≡ entry_in w.table g
  -- past 35; the ring's own numbers are none of these
  pub in_order : (room : ℕ) (m : List ℕ) (ring : ℕ) → ring < 14 → InOrder w room m ring

-- of a wall that was made fresh
pub record FromFresh (w : Wall) (list : List Call) : Type 0 where
  -- 'A fresh or closed record is free and all zeros'
  pub zeros : (i : ℕ) → is_open (at (end w list).table i) ≡ false → at (end w list).table i ≡ all_zeros
  -- what is open was opened and not closed yet; so after as many openings as closings the table is free
  pub balance : openings list (run w list) ≡ closings list (run w list) + open_records (end w list).table
  pub all-free :
      openings list (run w list) ≡ closings list (run w list)
      → (end w list).table ≡ replicate (length w.table) all_zeros

-- of a wall in which nothing was open: T-08, 'over any calls from an empty table that nothing else writes'. The calls are
-- openings and replies; making the wall fresh starts a new history
pub record ByHistory (w : Wall) (list : List Call) : Type 0 where
  -- 'the sum set aside is that of requests opened and not yet closed'
  pub sum : set_aside (end w list).table ≡ sum_of (still_held list (run w list))
  -- which are as many as are open
  pub as_many : open_records (end w list).table ≡ length (still_held list (run w list))
  -- it never exceeds 'that buffer's N - 1'
  pub within : sum_of (still_held list (run w list)) ≤ w.n - 1
  -- and each has '0 to 256'
  pub each : (i : ℕ) → (get_or (still_held list (run w list)) i (held_for 0 0)).room ≤ 256

-- ---- refusals

-- a refusal by this number: no figure beside it, the wall as it was
abbrev pub turned_away : ℕ → Wall → Outcome
turned_away c w = record { answer = record { code = c; kind = 0; fence = 0; action = 0; count = 0 }; wall = w }

-- ---- all of it

abbrev pub made_fresh : Wall → ℕ → Wall
made_fresh w n = (fresh w n).wall

-- a wall is fresh whatever it was: its call answers 0, and it is the plain map with nothing in it
pub record FreshWall (w : Wall) (n : ℕ) (list : List Call) : Type 0 where
  pub begins : (fresh w n).answer.code ≡ 0
  pub as_map : AsMap (made_fresh w n) (fresh_plain (length w.table) n) list
  pub follows : Follows (end (made_fresh w n) list)
  pub from-fresh : FromFresh (made_fresh w n) list
  pub by_history : ByHistory (made_fresh w n) list

pub record WallIsMap : Type 0 where
  -- from any good table, after every list
  pub any-table :
      (w : Wall) → Good w.table → (list : List Call) → AsMap w (plain_of w) list × Follows (end w list)
  -- from a fresh one, after every list
  pub fresh-table :
      (w : Wall) (n : ℕ) → 1 ≤ length w.table → length w.table ≤ 256 → allowed n ≡ true → (list : List Call)
      → FreshWall w n list
  -- 'from an empty table': from any in which nothing is open, fresh or not, after every list
  pub empty-table :
      (w : Wall) → Good w.table → open_records w.table ≡ 0 → (list : List Call) → ByHistory w list
  -- 'Another table length, or two open records with one fence, is 35, before all else.': every opening and reply
  -- answers it exactly where its table is one of the two
  pub bad-table : (w : Wall) (c : Call) → OfRing c → ((outcome w c).answer.code ≡ 35) ↔ (Taken w.table → ⊥)
  -- then 'the reply buffer's N (one not allowed is 2 in every call)'; where N is allowed no reply answers 2, and an opening
  -- only where the ring does
  pub bad-buffer :
      (w : Wall) (c : Call) → Taken w.table → allowed w.n ≡ false → outcome w c ≡ turned_away 2 w
  pub good-buffer :
      (w : Wall) (received : Option Message) → allowed w.n ≡ true
      → (outcome w (reply_call received)).answer.code ≡ 2 → ⊥
  pub ring-buffer :
      (w : Wall) (room : ℕ) (m : List ℕ) (ring : ℕ) → allowed w.n ≡ true
      → (outcome w (open_call room m ring)).answer.code ≡ 2 → ring ≡ 2
  -- of a table that is made fresh the length alone is asked; then N
  pub fresh-length :
      (w : Wall) (n : ℕ) → ((1 ≤ length w.table) × (length w.table ≤ 256) → ⊥) → fresh w n ≡ turned_away 35 w
  pub fresh-buffer :
      (w : Wall) (n : ℕ) → 1 ≤ length w.table → length w.table ≤ 256 → allowed n ≡ false
      → fresh w n ≡ turned_away 2 w
  -- a refusal 'changes nothing', on any table; the ring's too: 'if the ring refuses, table and last fence stay'
  pub refused-leaves :
      (w : Wall) (c : Call) → ((outcome w c).answer.code ≡ 0 → ⊥) → outcome w c ≡ turned_away (outcome w c).answer.code w
  -- a record is free where this number of it is 0, and open where it is any other
  pub free_is_0 : (r : Record) → (is_open r ≡ false) ↔ (r.is_open ≡ 0)
