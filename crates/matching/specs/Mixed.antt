-- T-08: 'Opening now .. sends it whole with the picked fence, read in demand 3 as that whole send'. Lists that mix openings
-- and replies of a wall with any steps and whole calls of both sides of the channel that it sends through, its own sender
-- among them. (The replies come from a receiver on another channel, or from anywhere.)
use Rattle.std.specs.Prelude.{ℕ, ◌%◌, ◌<◌, ◌≡◌, true, cond, List, [], ◌∷◌, ◌++◌, length, get_or, drop, eqb}
use Rattle.std.proofs.Math.Option.{Option}
use Rattle.message.specs.Fields.{fence, field_of}
use Rattle.message.specs.declared.Message.{Message}
use Rattle.ring.specs.Ring.{allowed}
use Rattle.channel.specs.Send
use Rattle.channel.specs.Operations.{Op, send_whole}
use Rattle.requests.specs.declared.planning.Answer.{Answer}
use Rattle.requests.specs.Calls.{Wall, open_number, reply}
use Rattle.requests.specs.Opening.{Sent, sent_for, sending}
use Rattle.delivery.specs.Operations as channel
use Rattle.delivery.specs.Operations.{Channel, Seen, begun}
use Rattle.delivery.specs.Demand.{Demand}
use Rattle.matching.specs.Lists.{Call, open_call, reply_call, AllOfRing, run, end}

-- an opening of a message with so much set aside, a reply, or a step or whole call of either side
pub data Step : Type 0 where
  open_step : ℕ → List ℕ → Step
  reply_step : Option Message → Step
  channel_step : Op → Step

-- a wall and the channel that it sends through
pub record Joined : Type 0 where
  pub wall : Wall
  pub channel : Channel

-- ---- what the steps do

-- what an opening gives, with the channel's sender and memory
abbrev pub sent_at : Joined → ℕ → List ℕ → Sent
sent_at x room m = sending x.wall room m x.channel.sender x.channel.desc x.channel.buf

-- the channel after it: the sender's next state, and the memory
abbrev pub channel_after : Channel → Sent → Channel
channel_after c s = record { sender = s.next; receiver = c.receiver; desc = s.desc; buf = s.buf }

abbrev pub after_step : Joined → Step → Joined
after_step x (open_step room m) = record { wall = (sent_at x room m).wall; channel = channel_after x.channel (sent_at x room m) }
after_step x (reply_step received) = record { wall = (reply x.wall received).wall; channel = x.channel }
after_step x (channel_step o) = record { wall = x.wall; channel = channel.after x.channel o }

unfoldable pub joined_end : Joined → List Step → Joined
joined_end x [] = x
joined_end x (s ∷ ss) = joined_end (after_step x s) ss

-- the answers of the openings and the replies
abbrev pub answer_to : Joined → Step → List Answer
answer_to x (open_step room m) = (sent_at x room m).answer ∷ []
answer_to x (reply_step received) = (reply x.wall received).answer ∷ []
answer_to x (channel_step o) = []

unfoldable pub wall_answers : Joined → List Step → List Answer
wall_answers x [] = []
wall_answers x (s ∷ ss) = answer_to x s ++ wall_answers (after_step x s) ss

-- whether the wall lets an opening pass, so that its message is sent
abbrev pub if_sent : {X : Type 0} → Joined → ℕ → List ℕ → List X → List X
if_sent x room m sent = cond (eqb (open_number x.wall room m) 0) sent []

-- what is seen of the channel: of each step and whole call, and of each opening that sends
abbrev pub seen_at : Joined → Step → List Seen
seen_at x (open_step room m) =
    if_sent x room m
    (record {
      code = (sent_at x room m).answer.code;
      len = 0;
      out = [];
      desc = (sent_at x room m).desc;
      buf = (sent_at x room m).buf;
    } ∷ [])
seen_at x (reply_step received) = []
seen_at x (channel_step o) = channel.seen (channel.outcome x.channel o) ∷ []

unfoldable pub channel_seen : Joined → List Step → List Seen
channel_seen x [] = []
channel_seen x (s ∷ ss) = seen_at x s ++ channel_seen (after_step x s) ss

-- ---- the list read as demand 3's

-- 'read in demand 3 as that whole send'; where the wall refuses, nothing is sent. A reply is no operation of the channel
abbrev pub as_op : Joined → Step → List Op
as_op x (open_step room m) = if_sent x room m (send_whole (sent_for x.wall m) ∷ [])
as_op x (reply_step received) = []
as_op x (channel_step o) = o ∷ []

unfoldable pub as_ops : Joined → List Step → List Op
as_ops x [] = []
as_ops x (s ∷ ss) = as_op x s ++ as_ops (after_step x s) ss

-- ---- the list read as calls of the wall alone

-- the number that the ring answers the whole send with. (Where the wall refuses, nothing asks for it.)
abbrev pub ring_number : Joined → List ℕ → ℕ
ring_number x m =
    (Send.whole x.channel.sender (sent_for x.wall m) x.channel.desc x.channel.buf).code

abbrev pub as_call : Joined → Step → List Call
as_call x (open_step room m) = open_call room m (ring_number x m) ∷ []
as_call x (reply_step received) = reply_call received ∷ []
as_call x (channel_step o) = []

unfoldable pub as_calls : Joined → List Step → List Call
as_calls x [] = []
as_calls x (s ∷ ss) = as_call x s ++ as_calls (after_step x s) ss

-- ---- the statement

-- a message m as it is sent with a picked fence, in figures
pub record SentAs (m sent : List ℕ) (picked : ℕ) : Type 0 where
  -- 'fence 31:16' of its header, which is a dword; the bits below are the caller's
  pub its_fence : field_of fence (get_or sent 0 0) ≡ picked
  pub other-bits : get_or sent 0 0 % 65536 ≡ get_or m 0 0 % 65536
  pub a_dword : get_or sent 0 0 < 4294967296
  -- every other dword is the caller's
  pub others : drop 1 sent ≡ drop 1 m
  pub as_long : length sent ≡ length m

-- after every list, from any wall and any channel
pub record ReadAs (x : Joined) (steps : List Step) : Type 0 where
  -- the channel, and all that is seen of it, is that of demand 3's list
  pub channel-end : (joined_end x steps).channel ≡ channel.end x.channel (as_ops x steps)
  pub channel-run : channel_seen x steps ≡ channel.run x.channel (as_ops x steps)
  -- the wall, and all that it answers, is that of Lists.antt's list
  pub wall-end : (joined_end x steps).wall ≡ end x.wall (as_calls x steps)
  pub wall-run : wall_answers x steps ≡ run x.wall (as_calls x steps)
  -- in which the ring's numbers are a ring's
  pub of_ring : AllOfRing (as_calls x steps)

pub record MixedLists : Type 0 where
  -- 'sends it whole with the picked fence': what an opening answered 0 sent is the message with the fence that it answers
  pub sends :
      (x : Joined) (room : ℕ) (m : List ℕ) → (sent_at x room m).answer.code ≡ 0
      → SentAs m (sent_for x.wall m) (sent_at x room m).answer.fence
  -- 'malformed or another type: 27': what passed it is well formed with the picked fence too, so the ring's 4 never comes
  pub never_4 : (x : Joined) (room : ℕ) (m : List ℕ) → (sent_at x room m).answer.code ≡ 4 → ⊥
  pub reads : (x : Joined) (steps : List Step) → ReadAs x steps
  -- 'read in demand 3': from a channel just opened, with any wall, demand 3 holds of the list
  pub demands :
      (w : Wall) (d b : List ℕ) → length d ≡ 16 → allowed (length b) ≡ true → (steps : List Step)
      → Demand d b (as_ops (record { wall = w; channel = begun d b }) steps)
