-- A self-test that follows from demand 3: open a channel, send a message whole, receive it whole.
use Rattle.std.specs.Prelude.{ℕ, ◌≡◌, Bool, true, ◌&&◌, cond, List, ◌++◌, length, drop, leb}
use Rattle.message.specs.Header.{is_message}
use Rattle.refusal.specs.Numbers.{number_of}
use Rattle.ring.specs.AtOnce.{len_of}
use Rattle.ring.specs.Ring.{allowed}
use Rattle.ring.specs.Numbers.{need}
use Rattle.channel.specs.Outcome.{Outcome}
use Rattle.channel.specs.Opening.{opening}
use Rattle.channel.specs.Operations.{send_whole, receive_whole}
use Rattle.delivery.specs.Operations.{begun, outcome, after}
use Rattle.delivery.specs.declared.Looped.{Looped}

-- what the send and the receive give on a channel that is just opened over d and b, or is refused
abbrev pub first_send : List ℕ → List ℕ → List ℕ → Outcome
first_send d b m = outcome (begun d b) (send_whole m)

abbrev pub first_receive : List ℕ → List ℕ → List ℕ → List ℕ → Outcome
first_receive d b m o = outcome (after (begun d b) (send_whole m)) (receive_whole o)

-- the numbers of the three calls, L, and the lent memory afterwards
pub record Loop : Type 0 where
  pub opened : ℕ
  pub sent : ℕ
  pub received : ℕ
  pub len : ℕ
  pub desc : List ℕ
  pub buf : List ℕ
  pub out : List ℕ

-- the three calls one after another
unfoldable pub loop : List ℕ → List ℕ → List ℕ → List ℕ → Loop
loop d b m o =
    let r = first_receive d b m o in
    record {
      opened = (opening d b).code;
      sent = (first_send d b m).code;
      received = r.code;
      len = r.len;
      desc = r.desc;
      buf = r.buf;
      out = r.out;
    }

-- in the answer struct, with the lent memory as the call leaves it
abbrev pub looped : Looped → List ℕ → List ℕ → List ℕ → Loop
looped r d b o =
    record {
      opened = number_of r.opened;
      sent = number_of r.sent;
      received = number_of r.received;
      len = len_of r.received;
      desc = d;
      buf = b;
      out = o;
    }

-- it can come back: it is a message, and the output is long enough
abbrev pub can_come_back : List ℕ → List ℕ → Bool
can_come_back m o = is_message m && leb 256 (length o)

-- what an opened channel does with one message
pub record ComesBack (m o : List ℕ) (x : Loop) : Type 0 where
  -- every message fits a fresh ring, so a send is refused by 4 alone
  pub sent : x.sent ≡ need (is_message m) 4 0
  -- a receive by 5, or by 11 where nothing was sent
  pub received : x.received ≡ need (leb 256 (length o)) 5 (need (is_message m) 11 0)
  -- the message comes back dword for dword, and the rest of the output is as it was
  pub len : x.len ≡ cond (can_come_back m o) (length m) 0
  pub out : x.out ≡ cond (can_come_back m o) (m ++ drop (length m) o) o

-- a corollary of demand 3, for every channel that opens
abbrev pub Loopback : Type 0
Loopback = (d b m o : List ℕ) → length d ≡ 16 → allowed (length b) ≡ true → ComesBack m o (loop d b m o)
