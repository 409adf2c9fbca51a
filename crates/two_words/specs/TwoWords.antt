-- A side that makes whole calls only, as two dwords that are lent to a call and changed in place: what they mean, and
-- the outcome of such a call.
use Rattle.std.specs.Prelude.{ℕ, List, get_or}
use Rattle.channel.specs.State.{State, idle_at}
use Rattle.channel.specs.Outcome.{Outcome}
use Rattle.channel.specs.Opening.{Opening}

-- a side that makes whole calls only is idle between them, and an idle state, 'L = 0, moved = 0, copy all zeros', has
-- only N and the own offset to keep: these two dwords and no others
unfoldable pub idle_of : List ℕ → State
idle_of w = idle_at (get_or w 0 0) (get_or w 1 0)

-- the outcome of its call, and of an opening of two such sides
abbrev pub in_two_words : ℕ → ℕ → List ℕ → List ℕ → List ℕ → List ℕ → Outcome
in_two_words c l w d b o = record { code = c; len = l; next = idle_of w; desc = d; buf = b; out = o }

abbrev pub opened_two_words : ℕ → List ℕ → List ℕ → List ℕ → List ℕ → Opening
opened_two_words c s r d b = record { code = c; sender = idle_of s; receiver = idle_of r; desc = d; buf = b }
