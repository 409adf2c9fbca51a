-- Whole calls at once, on plain numbers and lists: what the steps of a whole call come to. The code of whole calls is
-- held to these, and that they are the steps one after another is proved in the crate above
-- (channel/proofs/SendAtOnce.antt, ReceiveAtOnce.antt).
use Rattle.std.specs.Prelude.{ℕ, ◌+◌, ◌%◌, Bool, ◌||◌, cond, List, [], ◌++◌, length, get_or, drop, set, eqb}
use Rattle.std.specs.Prelude.{Result, Ok, Err}
use Rattle.refusal.specs.declared.Refusal.{Refusal}
use Rattle.refusal.specs.Numbers.{number, number_of}
use Rattle.message.specs.Header.{total_length, well_formed}
use Rattle.ring.specs.Ring.{HEAD, TAIL}
use Rattle.runs.specs.Buffer.{window, stored}
use Rattle.ring.specs.Numbers.{need, marked, number_at, take_decision}
use Rattle.ring.specs.declared.receiving.JudgedHeader.{JudgedHeader}
use Rattle.ring.specs.declared.receiving.WholeReceive.{WholeReceive}

-- the number, L, the own offset afterwards, and the lent memory afterwards
pub record AtOnce : Type 0 where
  pub code : ℕ
  pub len : ℕ
  pub own : ℕ
  pub desc : List ℕ
  pub buf : List ℕ
  pub out : List ℕ

-- the length L that an answer has, 0 where it refuses
abbrev pub len_of : Result ℕ Refusal → ℕ
len_of (Ok l) = l
len_of (Err r) = 0

-- the own offset after an answer that has the next one: a refusal leaves it
abbrev pub own_after : ℕ → Result ℕ Refusal → ℕ
own_after own (Ok next) = next
own_after own (Err r) = own

-- the answer of a whole send from an own tail on, and of a whole receive, with the lent memory as the call leaves it
abbrev pub sent_end : ℕ → Result ℕ Refusal → List ℕ → List ℕ → AtOnce
sent_end own r d b = record { code = number_of r; len = 0; own = own_after own r; desc = d; buf = b; out = [] }

abbrev pub received_end : WholeReceive → List ℕ → List ℕ → List ℕ → AtOnce
received_end r d b o = record { code = number_of r.answer; len = len_of r.answer; own = r.own; desc = d; buf = b; out = o }

-- a message with these two dwords in the place of its own first two
abbrev pub opened_by : ℕ → ℕ → List ℕ → List ℕ
opened_by header word m = set (set m 0 header) 1 word

-- a whole send: where the look accepts, the message lies from the own tail on, and TAIL past it
unfoldable pub send_by : ℕ → ℕ → List ℕ → List ℕ → List ℕ → AtOnce
send_by c own m d b =
    record {
      code = c;
      len = 0;
      own = cond (eqb c 0) ((own + length m) % length b) own;
      desc = cond (eqb c 0) (set d TAIL ((own + length m) % length b)) (marked c d);
      buf = cond (eqb c 0) (stored b (length b) own m) b;
      out = [];
    }

abbrev pub whole_send : Bool → ℕ → List ℕ → List ℕ → List ℕ → AtOnce
whole_send fits own m d b = send_by (number_at fits own m d (length b)) own m d b

-- the message that starts at an own head
abbrev pub length_at : ℕ → List ℕ → ℕ
length_at own b = total_length (get_or b own 0)

abbrev pub message_at : ℕ → List ℕ → List ℕ
message_at own b = window b (length b) own (length_at own b)

-- what a receive's look answers: its number, and where that is 0 also L and the header that it judged
pub record Judged : Type 0 where
  pub code : ℕ
  pub len : ℕ
  pub header : ℕ

abbrev pub judged : Result JudgedHeader Refusal → Judged
judged (Ok h) = record { code = 0; len = h.len; header = h.header }
judged (Err r) = record { code = number r; len = 0; header = 0 }

abbrev pub judged_header : ℕ → ℕ → List ℕ → Judged
judged_header c own b = record { code = c; len = cond (eqb c 0) (length_at own b) 0; header = cond (eqb c 0) (get_or b own 0) 0 }

-- the number of a whole receive, of which c is the number but for 13
unfoldable pub receive_number : ℕ → ℕ → List ℕ → ℕ
receive_number c own b = cond (eqb c 0) (need (well_formed (get_or b own 0) (get_or (message_at own b) 1 0)) 13 0) c

-- a whole receive: where the message is whole HEAD goes past it, and where it is well formed it is laid at the front of
-- the output
unfoldable pub receive_by : ℕ → ℕ → List ℕ → List ℕ → List ℕ → AtOnce
receive_by c own o d b =
    record {
      code = c;
      len = cond (eqb c 0) (length_at own b) 0;
      own = cond (eqb c 0 || eqb c 13) ((own + length_at own b) % length b) own;
      desc = cond (eqb c 0 || eqb c 13) (set d HEAD ((own + length_at own b) % length b)) (marked c d);
      buf = b;
      out = cond (eqb c 0) (message_at own b ++ drop (length_at own b) o) o;
    }

abbrev pub whole_receive : Bool → ℕ → List ℕ → List ℕ → List ℕ → AtOnce
whole_receive fits own o d b =
    receive_by (receive_number (take_decision fits own (length o) d (length b) (get_or b own 0)) own b) own o d b
