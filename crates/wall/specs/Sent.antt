-- An opening of a wall, as its code leaves it.
use Rattle.std.specs.Prelude.{List, ℕ}
use Rattle.side.specs.Words.{state_of}
use Rattle.requests.specs.declared.record.Record.{Record}
use Rattle.requests.specs.declared.planning.Answer.{Answer}
use Rattle.requests.specs.Calls.{wall_of}
use Rattle.requests.specs.Opening.{Sent}

-- what an opening gives, in an answer and in what it leaves of the table, of the wall's words, of the sender's and of the
-- channel's memory
abbrev pub sent_in : Answer → List Record → List ℕ → List ℕ → List ℕ → List ℕ → Sent
sent_in r t words sender d b = record { answer = r; wall = wall_of t words; next = state_of sender; desc = d; buf = b }
