-- What the crate's own functions are held to, below its public ones.
use Rattle.std.specs.Prelude.{ℕ, cond, List, [], eqb, leb}
use Rattle.message.specs.Header.{header_with}
use Rattle.ring.specs.AtOnce.{opened_by}
use Rattle.channel.specs.State.{State}
use Rattle.channel.specs.Outcome.{Outcome, refused}
use Rattle.channel.specs.Send
use Rattle.requests.specs.declared.planning.Plan.{Plan}
use Rattle.requests.specs.declared.asking.Ask.{Ask}

-- how many records of a table of n are taken by value
unfoldable pub kept : ℕ → ℕ
kept n = cond (leb n 256) n 0

-- what the sender gives for a plan: the whole send of the message, its header with the plan's fence, or nothing where the
-- plan is a refusal
unfoldable pub planned_send : Plan → Ask → List ℕ → State → List ℕ → List ℕ → Outcome
planned_send p a m s d b =
    cond (eqb p.answer.code 0)
    (Send.whole s (opened_by (header_with p.last a.header) a.word m) d b)
    (refused p.answer.code s d b [])
