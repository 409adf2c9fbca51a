-- What a refusal of an operation, of an opening or of a wall's call leaves: document 01's column 'Leaves', and the
-- sentences beside its table.
use Rattle.std.specs.Prelude.{ℕ, ◌+◌, ◌%◌, ◌≡◌, cond, List, [], length, get_or, take, drop, set, eqb}
use Rattle.message.specs.Header.{total_length}
use Rattle.ring.specs.Ring.{HEAD, STATUS, overflow, underflow, mismatch}
use Rattle.channel.specs.State.{State, idle_at}
use Rattle.channel.specs.Outcome.{Outcome}
use Rattle.channel.specs.Opening.{Opening}
use Rattle.channel.specs.Operations.{Op, send_look, send_move, send_publish, send_whole}
use Rattle.channel.specs.Operations.{receive_look, receive_move, receive_publish, receive_whole}
use Rattle.requests.specs.Calls.{Wall}
use Rattle.requests.specs.Opening.{Sent, sent_for}
use Rattle.requests.specs.declared.planning.Answer.{Answer}
use Rattle.refusals.specs.Order.{AllPass}
use Rattle.refusals.specs.WallRows.{request_tests}

-- the column 'Leaves', of the descriptor: 7 'STATUS = 1', 8 'STATUS = 4', 9 'STATUS = 2', 13 'HEAD moved', to the
-- offset past the message, else 'all'
unfoldable pub descriptor_left : ℕ → ℕ → List ℕ → List ℕ
descriptor_left number past d =
    cond (eqb number 7) (set d STATUS overflow)
    (cond (eqb number 8) (set d STATUS mismatch)
    (cond (eqb number 9) (set d STATUS underflow) (cond (eqb number 13) (set d HEAD past) d)))

-- 'The state comes back unchanged, except after 13, where it is idle past the message.'
unfoldable pub state_left : ℕ → ℕ → State → State
state_left number past s = cond (eqb number 13) (idle_at s.n past) s

-- the L of the message that a 13 passes over: of the copied one at a publish, of the one at the own head in a whole
-- receive. No other operation answers 13
abbrev pub passed_over : Op → State → List ℕ → ℕ
passed_over (send_look m) s b = 0
passed_over send_move s b = 0
passed_over send_publish s b = 0
passed_over (send_whole m) s b = 0
passed_over receive_look s b = 0
passed_over receive_move s b = 0
passed_over (receive_publish o) s b = s.len
passed_over (receive_whole o) s b = total_length (get_or b s.own 0)

-- 'HEAD = (own head + L) mod N'
abbrev pub offset_past : Op → State → List ℕ → ℕ
offset_past op s b = (s.own + passed_over op s b) % length b

-- the output that is lent to an operation, or no dword
abbrev pub output : Op → List ℕ
output (send_look m) = []
output send_move = []
output send_publish = []
output (send_whole m) = []
output receive_look = []
output receive_move = []
output (receive_publish o) = o
output (receive_whole o) = o

-- a refused operation. 'Only 7, 8, 9 and 13 change lent memory', and of that only the descriptor
pub record OperationRefused (op : Op) (s : State) (d b : List ℕ) (x : Outcome) : Type 0 where
  pub state : x.next ≡ state_left x.code (offset_past op s b) s
  pub descriptor : x.desc ≡ descriptor_left x.code (offset_past op s b) d
  pub buffer : x.buf ≡ b
  pub unlaid : x.out ≡ output op
  -- 'L, which is 0 on a refusal'
  pub no_length : x.len ≡ 0

-- a refused opening: it leaves all, and 'gives two all-zero states, made for N 0'
pub record OpeningRefused (d b : List ℕ) (x : Opening) : Type 0 where
  pub descriptor : x.desc ≡ d
  pub buffer : x.buf ≡ b
  pub sender : x.sender ≡ idle_at 0 0
  pub receiver : x.receiver ≡ idle_at 0 0

-- a refused call of a wall w, by its answer and the wall afterwards: 27 'changes nothing', and neither do the others, by the
-- column's 'all'. No figure is answered
pub record WallRefused (w : Wall) (answer : Answer) (after : Wall) : Type 0 where
  pub table : after.table ≡ w.table
  pub last-fence : after.last ≡ w.last
  pub reply-buffer : after.n ≡ w.n
  pub no_kind : answer.kind ≡ 0
  pub no_fence : answer.fence ≡ 0
  pub no_action : answer.action ≡ 0
  pub no_count : answer.count ≡ 0

-- a refused opening of a request: 'if the ring refuses, table and last fence stay'; the sender's state and the buffer stay
-- too, and the descriptor by the column 'Leaves', where of the ring's numbers for a send 7 and 8 set STATUS
pub record RequestRefused (w : Wall) (room : ℕ) (m : List ℕ) (s : State) (d b : List ℕ) (x : Sent) : Type 0 where
  pub wall-stays : WallRefused w x.answer x.wall
  pub state : x.next ≡ s
  pub descriptor : x.desc ≡ descriptor_left x.answer.code (offset_past (send_whole (sent_for w m)) s b) d
  pub buffer : x.buf ≡ b
  -- what the wall refuses by itself, ahead of the ring, leaves the channel untouched
  pub untouched : (AllPass (request_tests w room m) → ⊥) → (x.next ≡ s) × (x.desc ≡ d) × (x.buf ≡ b)

-- ---- reserved words

-- words '3 to 15 reserved' of a descriptor, and the three before them
abbrev pub reserved_words : List ℕ → List ℕ
reserved_words d = drop 3 d

abbrev pub unreserved_words : List ℕ → List ℕ
unreserved_words d = take 3 d

-- an outcome but for the reserved words of its descriptor
abbrev pub but_reserved : Outcome → Outcome
but_reserved x =
    record { code = x.code; len = x.len; next = x.next; desc = unreserved_words x.desc; buf = x.buf; out = x.out }

-- 'Reserved words are neither judged nor changed', by accepted operations too: on a descriptor e that differs from d in
-- them alone, all else comes out the same
pub record ReservedStay (operation : List ℕ → Outcome) : Type 0 where
  pub unchanged : (d : List ℕ) → reserved_words (operation d).desc ≡ reserved_words d
  pub unjudged :
      (d e : List ℕ) → length d ≡ length e → unreserved_words d ≡ unreserved_words e
      → but_reserved (operation d) ≡ but_reserved (operation e)
