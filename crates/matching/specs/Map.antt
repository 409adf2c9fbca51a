-- T-06's 'plain map from fences to requests', with openings and replies over it, in the request's own words and in those
-- of T-08: it knows no table, no places, and none of the definitions of `requests` but the shape of an answer. (What an
-- allowed N, a message and a message's fields are, `ring` and `message` say.)
use Rattle.std.specs.Prelude.{ℕ, zero, suc, ◌+◌, ◌-◌, ◌%◌, Bool, true, false, ◌&&◌, cond, List, get_or, eqb, leb, ltb}
use Rattle.std.proofs.Math.Option.{Option, none, some}
use Rattle.message.specs.Fields.{type, request_action, field_of}
use Rattle.message.specs.Header.{is_message}
use Rattle.message.specs.declared.Body.{Body}
use Rattle.message.specs.declared.Body.TheVariants.{Request, Event, FastRequest, Busy, Retry, Failure, Success}
use Rattle.message.specs.declared.Message.{Message}
use Rattle.ring.specs.Ring.{allowed}
use Rattle.requests.specs.declared.planning.Answer.{Answer}

-- an open request: its 'action and times answered busy', and 'the reply dwords set aside for it'
pub record Entry : Type 0 where
  pub action : ℕ
  pub count : ℕ
  pub room : ℕ

-- 'a plain map from fences to requests'
abbrev pub Map : Type 0
Map = ℕ → Option Entry

abbrev pub empty : Map
empty f = none

abbrev pub there : Option Entry → Bool
there none = false
there (some e) = true

unfoldable pub is_open_in : Map → ℕ → Bool
is_open_in m f = there (m f)

-- the map with what a fence has from now on: a request, or none
unfoldable pub put : Map → ℕ → Option Entry → Map
put m f e g = cond (eqb g f) e (m g)

-- how many of the fences below n are open; and of all, for there are 65,536
unfoldable pub open_below : ℕ → Map → ℕ
open_below zero m = 0
open_below (suc n) m = cond (is_open_in m n) 1 0 + open_below n m

unfoldable pub how_many : Map → ℕ
how_many m = open_below 65536 m

-- the dwords set aside for what a fence has; for the fences below n; and 'by all open requests'
abbrev pub room_of : Option Entry → ℕ
room_of none = 0
room_of (some e) = e.room

unfoldable pub aside_below : ℕ → Map → ℕ
aside_below zero m = 0
aside_below (suc n) m = room_of (m n) + aside_below n m

unfoldable pub aside_of : Map → ℕ
aside_of m = aside_below 65536 m

-- the map, the last fence used, how many requests may be open at once, and 'the reply buffer's N'
pub record Plain : Type 0 where
  pub most : ℕ
  pub n : ℕ
  pub requests : Map
  pub last : ℕ

-- 'the last fence starts at 65,535'
abbrev pub fresh_plain : ℕ → ℕ → Plain
fresh_plain most n = record { most = most; n = n; requests = empty; last = 65535 }

-- an answer, and the map afterwards
pub record PlainOutcome : Type 0 where
  pub answer : Answer
  pub next : Plain

-- a refusal answers its number and no figure, and changes nothing
abbrev pub refused_by : ℕ → Plain → PlainOutcome
refused_by c p = record { answer = record { code = c; kind = 0; fence = 0; action = 0; count = 0 }; next = p }

abbrev pub with_entry : Plain → ℕ → Option Entry → ℕ → Plain
with_entry p f e last = record { most = p.most; n = p.n; requests = put p.requests f e; last = last }

-- what comes next where a test holds, else a refusal by this number
abbrev pub needs : Bool → ℕ → Plain → PlainOutcome → PlainOutcome
needs test c p next = cond test next (refused_by c p)

-- ---- 'Opening .. picks the next fence'

-- 'counting up from the last one used and wrapping at 65,536': the one d further than the next
abbrev pub further : ℕ → ℕ → ℕ
further last d = (last + 1 + d) % 65536

-- 'skipping fences still open': how many are skipped from d on, at most so many
unfoldable pub skipped : ℕ → Map → ℕ → ℕ → ℕ
skipped zero m last d = d
skipped (suc more) m last d = cond (is_open_in m (further last d)) (skipped more m last (d + 1)) d

-- of 65,536 fences at most 65,535 can be skipped
unfoldable pub picked : Map → ℕ → ℕ
picked m last = further last (skipped 65535 m last 0)

-- a request is open from now on: its message's action, not answered busy yet, and so much set aside for it
unfoldable pub plain_open_at : ℕ → Plain → ℕ → List ℕ → PlainOutcome
plain_open_at f p room m =
    record {
      answer = record { code = 0; kind = 0; fence = f; action = 0; count = 0 };
      next =
          with_entry p f (some (record { action = field_of request_action (get_or m 1 0); count = 0; room = room })) f;
    }

-- 'a request message (malformed or another type: 27)'
unfoldable pub is_request_message : List ℕ → Bool
is_request_message m = is_message m && eqb (field_of type (get_or m 1 0)) 0

-- 'The order is .. 2, 14, 27, 26, 28, the ring's own.' An opening of a message m, with so much set aside, where the ring
-- answers the whole send with this number. (35 is for tables: no map has a fence twice.)
unfoldable pub plain_open : Plain → ℕ → List ℕ → ℕ → PlainOutcome
plain_open p room m ring =
    -- 'the reply buffer's N (one not allowed is 2 in every call)'
    needs (allowed p.n) 2 p
    -- '0 to 256 (an opening with more is 14)'
    (needs (leb room 256) 14 p
    (needs (is_request_message m) 27 p
    -- 'full is 26'
    (needs (ltb (how_many p.requests) p.most) 26 p
    -- '28 exactly when the dwords set aside by all open requests plus its own exceed that buffer's N - 1'
    (needs (leb (aside_of p.requests + room) (p.n - 1)) 28 p
    -- 'if the ring refuses, table and last fence stay'
    (needs (eqb ring 0) ring p (plain_open_at (picked p.requests p.last) p room m))))))

-- ---- 'A decoded success or failure of any origin with an open fence closes it, busy adds one to its count .., retry
-- closes it and says so.'

-- 'a reply, its kind and the request's action and count', with what its fence has afterwards; the kind is the number of
-- document 01's type
abbrev pub plain_answer : Plain → ℕ → ℕ → Entry → Option Entry → PlainOutcome
plain_answer p f kind e after =
    record {
      answer = record { code = 0; kind = kind; fence = 0; action = e.action; count = e.count };
      next = with_entry p f after p.last;
    }

-- 'busy adds one to its count (stopping at 65,535)'
unfoldable pub busier : Entry → Entry
busier e =
    record { action = e.action; count = cond (leb 65535 e.count) e.count (e.count + 1); room = e.room }

-- a message to an open fence; 'a message of another type, is 27'
unfoldable pub plain_hear : Plain → ℕ → Body → Entry → PlainOutcome
plain_hear p f (Request d a) e = refused_by 27 p
plain_hear p f (Event d a) e = refused_by 27 p
plain_hear p f (FastRequest d a) e = refused_by 27 p
plain_hear p f (Busy c) e = plain_answer p f 3 (busier e) (some (busier e))
plain_hear p f (Retry r) e = plain_answer p f 5 e none
plain_hear p f (Failure h n) e = plain_answer p f 6 e none
plain_hear p f (Success d) e = plain_answer p f 7 e none

-- 'A reply with no open fence .. is 27'
unfoldable pub plain_find : Plain → ℕ → Body → Option Entry → PlainOutcome
plain_find p f b none = refused_by 27 p
plain_find p f b (some e) = plain_hear p f b e

-- a received message; one that is malformed is 4
unfoldable pub plain_heard : Plain → Option Message → PlainOutcome
plain_heard p none = refused_by 4 p
plain_heard p (some m) = plain_find p m.fence m.body (p.requests m.fence)

-- '2 in every call'
unfoldable pub plain_reply : Plain → Option Message → PlainOutcome
plain_reply p received = needs (allowed p.n) 2 p (plain_heard p received)
