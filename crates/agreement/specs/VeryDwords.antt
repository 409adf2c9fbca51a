-- What is sent and what is handed out is judged on the very dwords used, of every state, message, descriptor and
-- buffer: the dwords that an accepted call stores or lays are those that it judged, they are a well-formed message, and
-- it leaves the state and the memory that the paper says, and nothing else.
use Rattle.std.specs.Prelude.{ℕ, ◌+◌, ◌-◌, ◌%◌, ◌≤◌, ◌≡◌, true, List, ◌∷◌, ◌++◌, length, get_or, take, drop, set, replicate}
use Rattle.message.specs.Header.{is_message, total_length, well_formed}
use Rattle.runs.specs.Buffer.{stored, window}
use Rattle.ring.specs.Ring.{HEAD, TAIL, head, tail, used}
use Rattle.channel.specs.State.{State, state, zeros, header, second}
use Rattle.channel.specs.Outcome.{Outcome}
use Rattle.channel.specs.Send
use Rattle.channel.specs.Receive

-- '(own tail + L) mod N', '(own head + L) mod N', of l dwords
abbrev pub offset_beyond : State → List ℕ → ℕ → ℕ
offset_beyond s b l = (s.own + l) % length b

-- 'After publish the state is idle with the new own offset, and its copy is all zeros.'
abbrev pub IdleAgain : State → ℕ → State → Type 0
IdleAgain s own next = next ≡ state s.n own 0 0 zeros

-- ---- a send

-- 'An active state carries its own copy of the message (up to 256 dwords), ..; a look leaves zeros in the copy's other
-- places.'
pub record LookedAt (s : State) (m d b : List ℕ) (x : Outcome) : Type 0 where
  pub is_message_fact : is_message m ≡ true
  pub next : x.next ≡ state s.n s.own (length m) 0 (m ++ replicate (256 - length m) 0)
  pub desc : x.desc ≡ d
  pub buf : x.buf ≡ b

-- 'store dword k at (own tail + k) mod N, one a step', of 'a well-formed copy', 'L agreeing with its copied header'
pub record DwordStored (s : State) (d b : List ℕ) (x : Outcome) : Type 0 where
  pub formed : well_formed (header s) (second s) ≡ true
  pub agrees : s.len ≡ total_length (header s)
  pub next : x.next ≡ state s.n s.own s.len (s.moved + 1) s.copy
  pub desc : x.desc ≡ d
  pub buf : x.buf ≡ set b ((s.own + s.moved) % length b) (get_or s.copy s.moved 0)

-- 'publish TAIL = (own tail + L) mod N', once all L dwords are stored
pub record TailPublished (s : State) (d b : List ℕ) (x : Outcome) : Type 0 where
  pub formed : well_formed (header s) (second s) ≡ true
  pub agrees : s.len ≡ total_length (header s)
  pub all_moved : s.moved ≡ s.len
  pub next : IdleAgain s (offset_beyond s b s.len) x.next
  pub desc : x.desc ≡ set d TAIL (offset_beyond s b s.len)
  pub buf : x.buf ≡ b

pub record WholeSent (s : State) (m d b : List ℕ) (x : Outcome) : Type 0 where
  pub is_message_fact : is_message m ≡ true
  pub next : IdleAgain s (offset_beyond s b (length m)) x.next
  pub desc : x.desc ≡ set d TAIL (offset_beyond s b (length m))
  pub buf : x.buf ≡ stored b (length b) s.own m

-- ---- a receive

-- 'the header, which counts as the first dword copied', of a message that is there
pub record HeaderTaken (s : State) (d b : List ℕ) (x : Outcome) : Type 0 where
  pub there : total_length (get_or b s.own 0) ≤ used (length b) (head d) (tail d)
  pub next :
      x.next ≡ state s.n s.own (total_length (get_or b s.own 0)) 1 (get_or b s.own 0 ∷ replicate 255 0)
  pub desc : x.desc ≡ d
  pub buf : x.buf ≡ b

-- 'copy the others one a step'
pub record DwordTaken (s : State) (d b : List ℕ) (x : Outcome) : Type 0 where
  pub next :
      x.next
      ≡ state s.n s.own s.len (s.moved + 1) (set s.copy s.moved (get_or b ((s.own + s.moved) % length b) 0))
  pub desc : x.desc ≡ d
  pub buf : x.buf ≡ b

-- 'publish HEAD = (own head + L) mod N and lay the L dwords at the front of the output, the rest of it unchanged', of
-- this message
pub record HandedOut (s : State) (m o d b : List ℕ) (x : Outcome) : Type 0 where
  pub is_message_fact : is_message m ≡ true
  pub len : x.len ≡ length m
  pub laid : take x.len x.out ≡ m
  pub rest : drop x.len x.out ≡ drop (length m) o
  pub next : IdleAgain s (offset_beyond s b (length m)) x.next
  pub desc : x.desc ≡ set d HEAD (offset_beyond s b (length m))
  pub buf : x.buf ≡ b

-- two outcomes that are the same but for the buffer
pub record SameButBuffer (x y : Outcome) : Type 0 where
  pub code : x.code ≡ y.code
  pub len : x.len ≡ y.len
  pub next : x.next ≡ y.next
  pub desc : x.desc ≡ y.desc
  pub out : x.out ≡ y.out

-- ---- every call

pub record VeryDwords : Type 0 where
  pub send-look : (s : State) (m d b : List ℕ) → (Send.look s m d b).code ≡ 0 → LookedAt s m d b (Send.look s m d b)
  pub send-move : (s : State) (d b : List ℕ) → (Send.move s d b).code ≡ 0 → DwordStored s d b (Send.move s d b)
  pub send-publish : (s : State) (d b : List ℕ) → (Send.publish s d b).code ≡ 0 → TailPublished s d b (Send.publish s d b)
  pub send-whole : (s : State) (m d b : List ℕ) → (Send.whole s m d b).code ≡ 0 → WholeSent s m d b (Send.whole s m d b)
  pub receive-look : (s : State) (d b : List ℕ) → (Receive.look s d b).code ≡ 0 → HeaderTaken s d b (Receive.look s d b)
  pub receive-move : (s : State) (d b : List ℕ) → (Receive.move s d b).code ≡ 0 → DwordTaken s d b (Receive.move s d b)
  -- a copy has 256 places in code ([u32; 256])
  pub receive-publish :
      (s : State) (o d b : List ℕ) → length s.copy ≡ 256 → (Receive.publish s o d b).code ≡ 0
      → HandedOut s (take s.len s.copy) o d b (Receive.publish s o d b)
  -- 'The copied message is judged at publish and the ring isn't read again for it.'
  pub ring-unread :
      (s : State) (o d b c : List ℕ) → length b ≡ length c
      → SameButBuffer (Receive.publish s o d b) (Receive.publish s o d c)
  pub receive-whole :
      (s : State) (o d b : List ℕ) → (Receive.whole s o d b).code ≡ 0
      → HandedOut s (window b (length b) s.own (total_length (get_or b s.own 0))) o d b (Receive.whole s o d b)
