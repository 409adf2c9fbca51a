-- The steps of a send and a whole send (document 01, 'Steps of a send and a receive'): the number first, then the
-- effect by it. Document 01's terms for the steps are look, move and publish.
use Rattle.std.specs.Prelude.{ℕ, ◌+◌, ◌-◌, cond, List, [], ◌++◌, length, get_or, set, replicate, eqb, leb, ltb}
use Rattle.ring.specs.Ring.{TAIL}
use Rattle.channel.specs.State.{State, idle_at, idle, active_send}
use Rattle.ring.specs.Numbers.{need, first_needs, marked, number_at}
use Rattle.channel.specs.Outcome.{Outcome, refused}
use Rattle.channel.specs.Steps.{next_place, past_message, moves, all_moves_by}

-- 'look (judge the message, read STATUS, HEAD, TAIL)': 1 to 4, then what the descriptor says
abbrev pub look_number : State → List ℕ → List ℕ → List ℕ → ℕ
look_number s m d b = number_at (idle (length b) s) s.own m d (length b)

-- active with the message: 'a look leaves zeros in the copy's other places'
abbrev pub loaded : State → List ℕ → State
loaded s m =
    record { n = s.n; own = s.own; len = length m; moved = 0; copy = m ++ replicate (256 - length m) 0 }

unfoldable pub look_by : ℕ → State → List ℕ → List ℕ → List ℕ → Outcome
look_by c s m d b =
    record { code = c; len = 0; next = cond (eqb c 0) (loaded s m) s; desc = marked c d; buf = b; out = [] }

abbrev pub look : State → List ℕ → List ℕ → List ℕ → Outcome
look s m d b = look_by (look_number s m d b) s m d b

-- 'store dword k at (own tail + k) mod N, one a step': 12 'a move after L'
unfoldable pub move_number : State → List ℕ → List ℕ → ℕ
move_number s d b = first_needs (length d) (length b) (active_send (length b) s) (need (ltb s.moved s.len) 12 0)

-- the state with one dword more moved
abbrev pub after_move : State → State
after_move s = record { n = s.n; own = s.own; len = s.len; moved = s.moved + 1; copy = s.copy }

unfoldable pub move_by : ℕ → State → List ℕ → List ℕ → Outcome
move_by c s d b =
    cond (eqb c 0)
    (record { code = 0; len = 0; next = after_move s; desc = d; buf = set b (next_place s b) (get_or s.copy s.moved 0); out = [] })
    (refused c s d b [])

abbrev pub move : State → List ℕ → List ℕ → Outcome
move s d b = move_by (move_number s d b) s d b

-- ours: all the stores that are left, in one call: 1, 2 and 3, which refuse any step that goes on, then the moves
unfoldable pub go_on_number : State → List ℕ → List ℕ → ℕ
go_on_number s d b = first_needs (length d) (length b) (active_send (length b) s) 0

abbrev pub move_all : State → List ℕ → List ℕ → Outcome
move_all s d b = all_moves_by (go_on_number s d b) move s d b

-- 'publish TAIL = (own tail + L) mod N': 12 'publish before L dwords moved'
unfoldable pub publish_number : State → List ℕ → List ℕ → ℕ
publish_number s d b = first_needs (length d) (length b) (active_send (length b) s) (need (leb s.len s.moved) 12 0)

-- 'After publish the state is idle with the new own offset, and its copy is all zeros.'
unfoldable pub publish_by : ℕ → State → List ℕ → List ℕ → Outcome
publish_by c s d b =
    cond (eqb c 0)
    (record { code = 0; len = 0; next = idle_at s.n (past_message s b); desc = set d TAIL (past_message s b); buf = b; out = [] })
    (refused c s d b [])

abbrev pub publish : State → List ℕ → List ℕ → Outcome
publish s d b = publish_by (publish_number s d b) s d b

-- a publish after another step: on the state and the memory that it left
abbrev pub publish_after : Outcome → Outcome
publish_after x = publish x.next x.desc x.buf

-- 'A whole send .. that 1 to 5 don't refuse equals its steps run one after another on the lent memory.' 1 to 4 are its
-- look's; where the look refuses, no step follows it, else l moves and the publish do.
unfoldable pub after_look : ℕ → Outcome → Outcome
after_look l x = cond (eqb x.code 0) (publish_after (moves move l x)) x

abbrev pub whole : State → List ℕ → List ℕ → List ℕ → Outcome
whole s m d b = after_look (length m) (look s m d b)
