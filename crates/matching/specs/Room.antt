-- What the room is for (T-08, 'A reply had no place, and the GuC stalled'): a reply of at most the dwords set aside always
-- finds room, where the reply buffer carries nothing else.
use Rattle.std.specs.Prelude.{ℕ, ◌+◌, ◌-◌, ◌≤◌, ◌<◌, ◌≡◌, true, cond, List, [], ◌∷◌, length, get_or, eqb}
use Rattle.message.specs.Fields.{fence, field_of}
use Rattle.ring.specs.Ring.{allowed}
use Rattle.channel.specs.State.{State}
use Rattle.channel.specs.Send
use Rattle.requests.specs.Table.{still_open, set_aside}
use Rattle.requests.specs.Calls.{Wall}
use Rattle.delivery.specs.Demand.{unread}
use Rattle.matching.specs.Map.{room_of}
use Rattle.matching.specs.Lists.{Call, end}
use Rattle.matching.specs.Matching.{Good, entry_in, open_records, made_fresh}

-- the fence in a message's header
abbrev pub fence_of : List ℕ → ℕ
fence_of m = field_of fence (get_or m 0 0)

-- how many dwords those of some messages have that have this fence
unfoldable pub dwords_for : ℕ → List (List ℕ) → ℕ
dwords_for f [] = 0
dwords_for f (m ∷ ms) = cond (eqb (fence_of m) f) (length m) 0 + dwords_for f ms

-- what is assumed of a reply buffer b with its descriptor d, and of a reply m that is sent there, beside a wall
pub record OnlyReplies (w : Wall) (d b m : List ℕ) : Type 0 where
  -- the wall is made for this buffer
  pub its_buffer : length b ≡ w.n
  -- 'carries nothing else': every message that lies there unread, and m, has the fence of a request that is open
  pub to_open :
      (i : ℕ) → i < length (m ∷ unread d b) → still_open w.table (fence_of (get_or (m ∷ unread d b) i [])) ≡ true
  -- 'at most the dwords set aside': all that answer one request, a busy before the last word too, keep to its room
  pub within :
      (f : ℕ) → still_open w.table f ≡ true → dwords_for f (m ∷ unread d b) ≤ room_of (entry_in w.table f)

-- a reply m finds room: from any state of the sender neither a whole send of it nor its look is refused by 10 (whoever
-- sends the replies may send in steps)
pub record FindsRoom (d b m : List ℕ) : Type 0 where
  pub whole : (s : State) → (Send.whole s m d b).code ≡ 10 → ⊥
  pub look : (s : State) → (Send.look s m d b).code ≡ 10 → ⊥

pub record RoomForReplies : Type 0 where
  -- where the wall sets aside no more than N - 1
  pub finds_room :
      (w : Wall) (d b m : List ℕ) → set_aside w.table ≤ w.n - 1 → OnlyReplies w d b m → FindsRoom d b m
  -- as after every list of calls on a wall that was made fresh
  pub after_calls :
      (w : Wall) (n : ℕ) → 1 ≤ length w.table → length w.table ≤ 256 → allowed n ≡ true → (list : List Call)
      → (d b m : List ℕ) → OnlyReplies (end (made_fresh w n) list) d b m → FindsRoom d b m
  -- and on any in which nothing was open
  pub after_calls_empty :
      (w : Wall) → Good w.table → open_records w.table ≡ 0 → (list : List Call)
      → (d b m : List ℕ) → OnlyReplies (end w list) d b m → FindsRoom d b m
