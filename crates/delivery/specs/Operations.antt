-- Lists of operations, run on a channel and on the plain channel.
use Rattle.std.specs.Prelude.{ℕ, List, [], ◌∷◌}
use Rattle.channel.specs.State.{State}
use Rattle.channel.specs.Outcome.{Outcome}
use Rattle.channel.specs.Opening.{opening}
use Rattle.channel.specs.Operations.{Op, send_look, send_move, send_publish, send_whole, receive_look, receive_move}
use Rattle.channel.specs.Operations.{receive_publish, receive_whole, Side, the_sender, the_receiver, side_of, gives}
use Rattle.delivery.specs.Plain
use Rattle.delivery.specs.Plain.{Plain, PlainOutcome, descriptor}

-- what is seen of an operation: its number, L, and the output, the descriptor and the buffer after it
pub record Seen : Type 0 where
  pub code : ℕ
  pub len : ℕ
  pub out : List ℕ
  pub desc : List ℕ
  pub buf : List ℕ

-- ---- a channel of one sender and one receiver

pub record Channel : Type 0 where
  pub sender : State
  pub receiver : State
  pub desc : List ℕ
  pub buf : List ℕ

-- as opening leaves it
unfoldable pub begun : List ℕ → List ℕ → Channel
begun d b =
    let o = opening d b in record { sender = o.sender; receiver = o.receiver; desc = o.desc; buf = o.buf }

-- the state of a side
abbrev pub state_on : Side → Channel → State
state_on the_sender x = x.sender
state_on the_receiver x = x.receiver

-- what an operation gives on a channel: on the state of its side, and the channel's memory
abbrev pub outcome : Channel → Op → Outcome
outcome x o = gives o (state_on (side_of o) x) x.desc x.buf

-- a channel with what a step of a side gives: the side's next state, and the memory
abbrev pub with_next : Side → Channel → Outcome → Channel
with_next the_sender x r = record { sender = r.next; receiver = x.receiver; desc = r.desc; buf = r.buf }
with_next the_receiver x r = record { sender = x.sender; receiver = r.next; desc = r.desc; buf = r.buf }

-- the channel after an operation
abbrev pub after : Channel → Op → Channel
after x o = with_next (side_of o) x (outcome x o)

abbrev pub seen : Outcome → Seen
seen r = record { code = r.code; len = r.len; out = r.out; desc = r.desc; buf = r.buf }

-- what is seen of each operation of a list, and the channel at its end
unfoldable pub run : Channel → List Op → List Seen
run x [] = []
run x (o ∷ os) = seen (outcome x o) ∷ run (after x o) os

unfoldable pub end : Channel → List Op → Channel
end x [] = x
end x (o ∷ os) = end (after x o) os

-- ---- the plain channel, fed the same list

abbrev pub plain_outcome : Plain → Op → PlainOutcome
plain_outcome p (send_look m) = Plain.send_look p m
plain_outcome p send_move = Plain.send_move p
plain_outcome p send_publish = Plain.send_publish p
plain_outcome p (send_whole m) = Plain.send_whole p m
plain_outcome p receive_look = Plain.receive_look p
plain_outcome p receive_move = Plain.receive_move p
plain_outcome p (receive_publish o) = Plain.receive_publish p o
plain_outcome p (receive_whole o) = Plain.receive_whole p o

abbrev pub plain_seen : PlainOutcome → Seen
plain_seen a = record { code = a.code; len = a.len; out = a.out; desc = descriptor a.next; buf = a.next.buf }

unfoldable pub plain_run : Plain → List Op → List Seen
plain_run p [] = []
plain_run p (o ∷ os) = plain_seen (plain_outcome p o) ∷ plain_run (plain_outcome p o).next os

unfoldable pub plain_end : Plain → List Op → Plain
plain_end p [] = p
plain_end p (o ∷ os) = plain_end (plain_outcome p o).next os
