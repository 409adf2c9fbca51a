-- A channel with both its sides: what a call answers and leaves, read as the outcome that the channel's own definitions
-- give.
use Rattle.std.specs.Prelude.{◌≡◌, ℕ, List, Result, replicate}
use Rattle.refusal.specs.declared.Refusal.{Refusal}
use Rattle.refusal.specs.Numbers.{number_of}
use Rattle.channel.specs.State.{State, of_sender, of_receiver, idle_at}
use Rattle.channel.specs.Outcome.{Outcome, sent, stepped, received}
use Rattle.channel.specs.Opening.{Opening}
use Rattle.channel.specs.Operations.{Op, gives}
use Rattle.stage.specs.declared.channels.Ctb.{Ctb}

-- what a channel is made of, its sides as states
pub record Contents : Type 0 where
  pub desc : List ℕ
  pub buf : List ℕ
  pub sender : State
  pub receiver : State

abbrev pub contents_of : Ctb → Contents
contents_of c = record { desc = c.desc; buf = c.buf; sender = of_sender c.sender; receiver = of_receiver c.receiver }

-- a ring of zeros under a descriptor that has other words, and two states that fit no call
abbrev pub unopened_contents : Contents
unopened_contents =
    record { desc = replicate 16 9; buf = replicate 1024 0; sender = idle_at 0 0; receiver = idle_at 0 0 }

-- what an opening answered, and left
abbrev pub opened_by : Result (Unit {0}) Refusal → Ctb → Opening
opened_by r c =
    record {
      code = number_of r;
      sender = of_sender c.sender;
      receiver = of_receiver c.receiver;
      desc = c.desc;
      buf = c.buf;
    }

-- what a call of the sender answered and left, a step of the receiver, and a call of the receiver with the output that it
-- was lent
abbrev pub sent_by : Result (Unit {0}) Refusal → Ctb → Outcome
sent_by r c = sent r c.sender c.desc c.buf

abbrev pub stepped_by : Result (Unit {0}) Refusal → Ctb → Outcome
stepped_by r c = stepped r c.receiver c.desc c.buf

abbrev pub received_by : Result ℕ Refusal → Ctb → List ℕ → Outcome
received_by r c out = received r c.receiver c.desc c.buf out

-- the sender's call gave what the operation gives on the channel as it was, and left the receiver; the receiver's the
-- other way round
pub record SenderDid (op : Op) (gave : Outcome) (c after : Ctb) : Type 0 where
  pub does : gave ≡ gives op (of_sender c.sender) c.desc c.buf
  pub leaves : after.receiver ≡ c.receiver

pub record ReceiverDid (op : Op) (gave : Outcome) (c after : Ctb) : Type 0 where
  pub does : gave ≡ gives op (of_receiver c.receiver) c.desc c.buf
  pub leaves : after.sender ≡ c.sender

-- what somebody else writes: a word of the descriptor, a dword of the ring, another sender's state
abbrev pub with_desc : List ℕ → Contents → Contents
with_desc d p = record { desc = d; buf = p.buf; sender = p.sender; receiver = p.receiver }

abbrev pub with_buf : List ℕ → Contents → Contents
with_buf b p = record { desc = p.desc; buf = b; sender = p.sender; receiver = p.receiver }

abbrev pub with_sender : State → Contents → Contents
with_sender s p = record { desc = p.desc; buf = p.buf; sender = s; receiver = p.receiver }
