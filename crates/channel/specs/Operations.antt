-- The eight operations of a channel's two sides, as data, and what each gives: what lists of operations (demand 3) and
-- the table of refusals (demand 1) both speak of.
use Rattle.std.specs.Prelude.{ℕ, List}
use Rattle.channel.specs.State.{State}
use Rattle.channel.specs.Outcome.{Outcome}
use Rattle.channel.specs.Send
use Rattle.channel.specs.Receive

-- 'each step or whole call with its side, message or output'
pub data Op : Type 0 where
  send_look : List ℕ → Op
  send_move : Op
  send_publish : Op
  send_whole : List ℕ → Op
  receive_look : Op
  receive_move : Op
  receive_publish : List ℕ → Op
  receive_whole : List ℕ → Op

-- the two sides, and whose an operation is
pub data Side : Type 0 where
  the_sender : Side
  the_receiver : Side

abbrev pub side_of : Op → Side
side_of (send_look m) = the_sender
side_of send_move = the_sender
side_of send_publish = the_sender
side_of (send_whole m) = the_sender
side_of receive_look = the_receiver
side_of receive_move = the_receiver
side_of (receive_publish o) = the_receiver
side_of (receive_whole o) = the_receiver

-- what an operation gives on its side's state, a descriptor and a buffer, by the definitions that the contracts cite
abbrev pub gives : Op → State → List ℕ → List ℕ → Outcome
gives (send_look m) s d b = Send.look s m d b
gives send_move s d b = Send.move s d b
gives send_publish s d b = Send.publish s d b
gives (send_whole m) s d b = Send.whole s m d b
gives receive_look s d b = Receive.look s d b
gives receive_move s d b = Receive.move s d b
gives (receive_publish o) s d b = Receive.publish s o d b
gives (receive_whole o) s d b = Receive.whole s o d b
