-- A side's state as 260 dwords that are lent to a call and changed in place: what they mean, and the outcome of such a
-- call.
use Rattle.std.specs.Prelude.{ℕ, List, get_or, drop}
use Rattle.channel.specs.State.{State, state}
use Rattle.channel.specs.Outcome.{Outcome}
use Rattle.channel.specs.Opening.{Opening}

-- the state in the words: n, own, len, moved, and the copy
unfoldable pub state_of : List ℕ → State
state_of w = state (get_or w 0 0) (get_or w 1 0) (get_or w 2 0) (get_or w 3 0) (drop 4 w)

-- the outcome of a call that answers a number and L, with the words and the lent memory as it leaves them
abbrev pub in_words : ℕ → ℕ → List ℕ → List ℕ → List ℕ → List ℕ → Outcome
in_words c l w d b o = record { code = c; len = l; next = state_of w; desc = d; buf = b; out = o }

-- the same of an opening, with both sides' words
abbrev pub opened_words : ℕ → List ℕ → List ℕ → List ℕ → List ℕ → Opening
opened_words c s r d b = record { code = c; sender = state_of s; receiver = state_of r; desc = d; buf = b }
