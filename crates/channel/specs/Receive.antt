-- The steps of a receive and a whole receive (document 01, 'Steps of a send and a receive'): the number first, then the
-- effect by it.
use Rattle.std.specs.Prelude.{ℕ, ◌+◌, ◌-◌, ◌||◌, cond, List, [], ◌∷◌, ◌++◌, length, get_or, take, drop, set, replicate, eqb, leb, ltb}
use Rattle.message.specs.Header.{total_length, well_formed}
use Rattle.ring.specs.Ring.{HEAD}
use Rattle.channel.specs.State.{State, idle_at, idle, active_receive, header, second}
use Rattle.ring.specs.Numbers.{need, first_needs, receive_decision, marked}
use Rattle.channel.specs.Outcome.{Outcome, refused}
use Rattle.channel.specs.Steps.{next_place, past_message, moves, all_moves_by}

-- 'look (read STATUS, HEAD, TAIL and, if not empty, the header, ..)': 1, 2 and 3, then what the descriptor and the
-- header at the own head say
abbrev pub look_number : State → List ℕ → List ℕ → ℕ
look_number s d b = receive_decision (idle (length b) s) s.own d (length b) (get_or b s.own 0)

-- 'the header, which counts as the first dword copied'
abbrev pub loaded : State → ℕ → State
loaded s h = record { n = s.n; own = s.own; len = total_length h; moved = 1; copy = h ∷ replicate 255 0 }

unfoldable pub look_by : ℕ → State → List ℕ → List ℕ → Outcome
look_by c s d b =
    record { code = c; len = 0; next = cond (eqb c 0) (loaded s (get_or b s.own 0)) s; desc = marked c d; buf = b; out = [] }

abbrev pub look : State → List ℕ → List ℕ → Outcome
look s d b = look_by (look_number s d b) s d b

-- 'copy the others one a step': 12 'a move after L'
unfoldable pub move_number : State → List ℕ → List ℕ → ℕ
move_number s d b = first_needs (length d) (length b) (active_receive (length b) s) (need (ltb s.moved s.len) 12 0)

-- the state with one dword more moved, into its copy
abbrev pub after_move : State → ℕ → State
after_move s dword =
    record { n = s.n; own = s.own; len = s.len; moved = s.moved + 1; copy = set s.copy s.moved dword }

unfoldable pub move_by : ℕ → State → List ℕ → List ℕ → Outcome
move_by c s d b =
    cond (eqb c 0)
    (record { code = 0; len = 0; next = after_move s (get_or b (next_place s b) 0); desc = d; buf = b; out = [] })
    (refused c s d b [])

abbrev pub move : State → List ℕ → List ℕ → Outcome
move s d b = move_by (move_number s d b) s d b

-- ours: all the copies that are left, in one call: 1, 2 and 3, which refuse any step that goes on, then the moves
unfoldable pub go_on_number : State → List ℕ → List ℕ → ℕ
go_on_number s d b = first_needs (length d) (length b) (active_receive (length b) s) 0

abbrev pub move_all : State → List ℕ → List ℕ → Outcome
move_all s d b = all_moves_by (go_on_number s d b) move s d b

-- 'publish HEAD = (own head + L) mod N': 5 'output shorter than 256', 12 'publish before L dwords moved', 13 'received
-- message whole but malformed'. 'The copied message is judged at publish and the ring isn't read again for it.'
-- with the lengths of the output, the descriptor and the buffer
unfoldable pub publish_number_of : State → ℕ → ℕ → ℕ → ℕ
publish_number_of s output descriptor n =
    first_needs descriptor n (active_receive n s)
    (need (leb 256 output) 5 (need (leb s.len s.moved) 12 (need (well_formed (header s) (second s)) 13 0)))

abbrev pub publish_number : State → List ℕ → List ℕ → List ℕ → ℕ
publish_number s o d b = publish_number_of s (length o) (length d) (length b)

-- 'lay the L dwords at the front of the output, the rest of it unchanged. .. Malformed: HEAD moves all the same, the
-- output stays, the answer is 13.'
unfoldable pub publish_by : ℕ → State → List ℕ → List ℕ → List ℕ → Outcome
publish_by c s o d b =
    cond (eqb c 0 || eqb c 13)
    (record {
      code = c;
      len = cond (eqb c 0) s.len 0;
      next = idle_at s.n (past_message s b);
      desc = set d HEAD (past_message s b);
      buf = b;
      out = cond (eqb c 0) (take s.len s.copy ++ drop s.len o) o;
    })
    (refused c s d b o)

abbrev pub publish : State → List ℕ → List ℕ → List ℕ → Outcome
publish s o d b = publish_by (publish_number s o d b) s o d b

-- a publish after another step: on the state and the memory that it left
abbrev pub publish_after : List ℕ → Outcome → Outcome
publish_after o x = publish x.next o x.desc x.buf

-- an outcome with the output that is lent beside it
abbrev pub beside : List ℕ → Outcome → Outcome
beside o x = record { code = x.code; len = x.len; next = x.next; desc = x.desc; buf = x.buf; out = o }

-- after the look, which moved the header: L - 1 moves and the publish
unfoldable pub after_look : List ℕ → Outcome → Outcome
after_look o x = cond (eqb x.code 0) (publish_after o (moves move (x.next.len - 1) x)) (beside o x)

-- the numbers 1 to 5 of a whole receive
unfoldable pub whole_number : State → List ℕ → List ℕ → List ℕ → ℕ
whole_number s o d b = first_needs (length d) (length b) (idle (length b) s) (need (leb 256 (length o)) 5 0)

-- 'A whole .. receive that 1 to 5 don't refuse equals its steps run one after another on the lent memory.'
unfoldable pub whole_by : ℕ → State → List ℕ → List ℕ → List ℕ → Outcome
whole_by c s o d b = cond (eqb c 0) (after_look o (look s d b)) (refused c s d b o)

abbrev pub whole : State → List ℕ → List ℕ → List ℕ → Outcome
whole s o d b = whole_by (whole_number s o d b) s o d b
