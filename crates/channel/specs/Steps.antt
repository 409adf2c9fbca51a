-- What the steps of both sides share: the place of the next dword, the offset past the message, and one step after
-- another.
use Rattle.std.specs.Prelude.{ℕ, zero, suc, ◌+◌, ◌-◌, ◌%◌, cond, List, [], length, eqb}
use Rattle.channel.specs.State.{State}
use Rattle.channel.specs.Outcome.{Outcome, refused}

-- the place in the buffer of the next dword that a state moves: 'dword k at (own tail + k) mod N', and for a receive
-- from the own head on
abbrev pub next_place : State → List ℕ → ℕ
next_place s b = (s.own + s.moved) % length b

-- the offset past a state's message: 'TAIL = (own tail + L) mod N', 'HEAD = (own head + L) mod N'
abbrev pub past_message : State → List ℕ → ℕ
past_message s b = (s.own + s.len) % length b

-- what a side's move gives on a state, a descriptor and a buffer
abbrev pub Move : Type 0
Move = State → List ℕ → List ℕ → Outcome

-- moves 'one after another': each on the state and the memory that the step before it left
abbrev pub move_after : Move → Outcome → Outcome
move_after move x = move x.next x.desc x.buf

unfoldable pub moves : Move → ℕ → Outcome → Outcome
moves move zero x = x
moves move (suc k) x = moves move k (move_after move x)

-- nothing moved yet, and nothing changed
abbrev pub at_first : State → List ℕ → List ℕ → Outcome
at_first s d b = record { code = 0; len = 0; next = s; desc = d; buf = b; out = [] }

-- ours: all the moves that are left, in one call that 1, 2 or 3 may refuse (c is their number): as many moves as are
-- left of L, one after another, and none where none is left
unfoldable pub all_moves_by : ℕ → Move → State → List ℕ → List ℕ → Outcome
all_moves_by c move s d b = cond (eqb c 0) (moves move (s.len - s.moved) (at_first s d b)) (refused c s d b [])
