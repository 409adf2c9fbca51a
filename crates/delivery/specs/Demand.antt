-- The customer's demand 3: after every list of looks, moves, publishes and whole calls of one sender and one receiver,
-- in any order, refused ones included, the channel has done what document 01's plain channel does. One record, a field
-- for each sentence of the demand.
use Rattle.std.specs.Prelude.{ℕ, zero, suc, ◌+◌, ◌%◌, ◌≤◌, ◌<◌, ◌≡◌, true, ◌||◌, cond, List, [], ◌∷◌, ◌++◌, map, length, get_or, take, drop, eqb}
use Rattle.message.specs.Header.{total_length}
use Rattle.ring.specs.Ring.{allowed, head, tail, used}
use Rattle.runs.specs.Buffer.{window}
use Rattle.channel.specs.Outcome.{Outcome}
use Rattle.channel.specs.Opening.{opening}
use Rattle.channel.specs.Steps.{moves, next_place}
use Rattle.channel.specs.Send
use Rattle.delivery.specs.Plain.{Plain, not_sending, not_receiving, fresh, descriptor}
use Rattle.channel.specs.Operations.{Op, send_look, send_move, send_publish, send_whole}
use Rattle.channel.specs.Operations.{receive_look, receive_move, receive_publish, receive_whole}
use Rattle.delivery.specs.Operations.{Seen, Channel, begun, outcome, after, run, end, plain_run, plain_end}

-- ---- messages published, received and unread

-- the message of the send that is mid-call: that of its last look answered 0
abbrev pub held : List ℕ → Op → Seen → List ℕ
held c (send_look m) a = cond (eqb a.code 0) m c
held c send_move a = c
held c send_publish a = c
held c (send_whole m) a = c
held c receive_look a = c
held c receive_move a = c
held c (receive_publish o) a = c
held c (receive_whole o) a = c

-- 'a message is published when its send's publish or whole send answers 0'
abbrev pub published_by : List ℕ → Op → Seen → List (List ℕ)
published_by c (send_look m) a = []
published_by c send_move a = []
published_by c send_publish a = cond (eqb a.code 0) (c ∷ []) []
published_by c (send_whole m) a = cond (eqb a.code 0) (m ∷ []) []
published_by c receive_look a = []
published_by c receive_move a = []
published_by c (receive_publish o) a = []
published_by c (receive_whole o) a = []

unfoldable pub messages_published : List ℕ → List Op → List Seen → List (List ℕ)
messages_published c [] ss = []
messages_published c (o ∷ os) [] = []
messages_published c (o ∷ os) (a ∷ ss) = published_by c o a ++ messages_published (held c o a) os ss

-- 'received as the L dwords that a receive's publish or whole receive answering 0 lays'
abbrev pub received_by : Op → Seen → List (List ℕ)
received_by (send_look m) a = []
received_by send_move a = []
received_by send_publish a = []
received_by (send_whole m) a = []
received_by receive_look a = []
received_by receive_move a = []
received_by (receive_publish o) a = cond (eqb a.code 0) (take a.len a.out ∷ []) []
received_by (receive_whole o) a = cond (eqb a.code 0) (take a.len a.out ∷ []) []

unfoldable pub messages_received : List Op → List Seen → List (List ℕ)
messages_received [] ss = []
messages_received (o ∷ os) [] = []
messages_received (o ∷ os) (a ∷ ss) = received_by o a ++ messages_received os ss

-- dwords cut into messages by their headers. At most `most` messages are cut off: that is what lets the definition end,
-- and it leaves none out where `most` is at least the number of dwords, for every message takes at least one of them
unfoldable pub cut : ℕ → List ℕ → List (List ℕ)
cut zero dwords = []
cut (suc most) [] = []
cut (suc most) (h ∷ t) = take (total_length h) (h ∷ t) ∷ cut most (drop (total_length h) (h ∷ t))

-- 'Unread are the used dwords from HEAD on, cut by their headers.' There are fewer used dwords than N, so N messages
-- are as many as they can be
unfoldable pub unread : List ℕ → List ℕ → List (List ℕ)
unread d b = cut (length b) (window b (length b) (head d) (used (length b) (head d) (tail d)))

-- ---- stores

-- 'Published and not yet released are buffer dwords R to P - 1, mod N.'
pub record Unreleased (p : Plain) (j : ℕ) : Type 0 where
  pub i : ℕ
  pub from : p.R ≤ i
  pub to : i < p.P
  pub at : j ≡ i % p.n

-- a whole send after its look and k of its stores
abbrev pub midway : Channel → List ℕ → ℕ → Outcome
midway x m k = moves Send.move k (Send.look x.sender m x.desc x.buf)

-- place j is where the operation stores dword k of its message, by the channel's own words: a move the next dword; a
-- whole send, where its look is accepted, dword k after k others
abbrev pub StoresAt : Channel → Op → ℕ → ℕ → Type 0
StoresAt x (send_look m) k j = ⊥
StoresAt x send_move k j = ((outcome x send_move).code ≡ 0) × (k ≡ x.sender.moved) × (j ≡ next_place x.sender x.buf)
StoresAt x send_publish k j = ⊥
StoresAt x (send_whole m) k j =
    ((outcome x (send_look m)).code ≡ 0) × (k < length m) × (j ≡ next_place (midway x m k).next (midway x m k).buf)
StoresAt x receive_look k j = ⊥
StoresAt x receive_move k j = ⊥
StoresAt x (receive_publish o) k j = ⊥
StoresAt x (receive_whole o) k j = ⊥

-- ---- calls that ended

-- a call's answer: the number, L and the output
pub record Result : Type 0 where
  pub code : ℕ
  pub len : ℕ
  pub out : List ℕ

abbrev pub result : Seen → Result
result a = record { code = a.code; len = a.len; out = a.out }

-- an ended call, as it is run whole, and its answer
pub record Call : Type 0 where
  pub op : Op
  pub answer : Result

abbrev pub call : Op → Result → List Call
call o r = record { op = o; answer = r } ∷ []

-- 'A call ends with a publish answered 0, a whole call not answered 3, or a look refused by any number but 3; that
-- answer is the call's, with L 0 where a receive's look is refused. Run whole, a stepped send takes its look's message,
-- and a stepped receive its publish's output or, where it ended at its look, any 256 dwords, which stay. Other refusals
-- end no call.'
-- `e` are those 256 dwords; c is the message of the send that is mid-call.
abbrev pub ended_by : List ℕ → List ℕ → Op → Seen → List Call
ended_by e c (send_look m) a = cond (eqb a.code 0 || eqb a.code 3) [] (call (send_whole m) (result a))
ended_by e c send_move a = []
ended_by e c send_publish a = cond (eqb a.code 0) (call (send_whole c) (result a)) []
ended_by e c (send_whole m) a = cond (eqb a.code 3) [] (call (send_whole m) (result a))
ended_by e c receive_look a =
    cond (eqb a.code 0 || eqb a.code 3) [] (call (receive_whole e) (record { code = a.code; len = 0; out = e }))
ended_by e c receive_move a = []
ended_by e c (receive_publish o) a = cond (eqb a.code 0) (call (receive_whole o) (result a)) []
ended_by e c (receive_whole o) a = cond (eqb a.code 3) [] (call (receive_whole o) (result a))

-- the calls that ended, in the order of their ends. `any` gives 256 dwords for each place in the list, so that they may
-- differ from call to call
unfoldable pub ended : (ℕ → List ℕ) → List ℕ → List Op → List Seen → List Call
ended any c [] ss = []
ended any c (o ∷ os) [] = []
ended any c (o ∷ os) (a ∷ ss) = ended_by (any (length os)) c o a ++ ended any (held c o a) os ss

abbrev pub wholes : List Call → List Op
wholes cs = map (λ (c : Call). c.op) cs

abbrev pub answers : List Call → List Result
answers cs = map (λ (c : Call). c.answer) cs

-- ---- the demand

-- the calls run whole from x give their answers and outputs, and end with the descriptor and the buffer of y
pub record Serial (x : Channel) (cs : List Call) (y : Channel) : Type 0 where
  pub same_answers : map result (run x (wholes cs)) ≡ answers cs
  pub same_desc : (end x (wholes cs)).desc ≡ y.desc
  pub same_buf : (end x (wholes cs)).buf ≡ y.buf

pub record Demand (d b : List ℕ) (list : List Op) : Type 0 where
  -- opening answers 0
  pub opens : (opening d b).code ≡ 0
  -- the messages received, then those unread, are those published, in order and dword for dword
  pub messages :
      messages_received list (run (begun d b) list) ++ unread (end (begun d b) list).desc (end (begun d b) list).buf
      ≡ messages_published [] list (run (begun d b) list)
  -- 'no store landed' on a dword published and not yet released: each operation o of the list, after those before it,
  -- stores at no such place and changes the value of no such dword. (What is unreleased just before o is that of the
  -- list cut off there: the demand holds of every prefix.)
  pub stores :
      (before later : List Op) (o : Op) → list ≡ before ++ o ∷ later → (j : ℕ)
      → Unreleased (plain_end (fresh (length b) b) before) j
      → ((k : ℕ) → StoresAt (end (begun d b) before) o k j → ⊥)
      × (get_or (after (end (begun d b) before) o).buf j 0 ≡ get_or (end (begun d b) before).buf j 0)
  -- 'the place (P + k) mod N of a send's store, in whole calls too'
  pub places :
      (before later : List Op) (o : Op) → list ≡ before ++ o ∷ later → (k j : ℕ)
      → StoresAt (end (begun d b) before) o k j
      → j ≡ ((plain_end (fresh (length b) b) before).P + k) % (plain_end (fresh (length b) b) before).n
  -- every answer, output, descriptor and buffer is the plain channel's, after each operation and at the end
  pub as_plain : run (begun d b) list ≡ plain_run (fresh (length b) b) list
  pub plain_desc : (end (begun d b) list).desc ≡ descriptor (plain_end (fresh (length b) b) list)
  pub plain_buf : (end (begun d b) list).buf ≡ (plain_end (fresh (length b) b) list).buf
  -- whenever neither side is mid-call, the calls that ended, run whole in the order of their ends, give the same
  -- answers, outputs, descriptor and buffer
  pub serial :
      (plain_end (fresh (length b) b) list).send ≡ not_sending → (plain_end (fresh (length b) b) list).receive ≡ not_receiving
      → (any : ℕ → List ℕ) → ((i : ℕ) → length (any i) ≡ 256)
      → Serial (begun d b) (ended any [] list (run (begun d b) list)) (end (begun d b) list)

-- for every descriptor of 16 dwords, every buffer of an allowed N, and every list
abbrev pub Demand3 : Type 0
Demand3 = (d b : List ℕ) → length d ≡ 16 → allowed (length b) ≡ true → (list : List Op) → Demand d b list
