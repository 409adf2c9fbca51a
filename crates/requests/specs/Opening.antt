-- An opening with what it sends (document 02, T-08): 'Opening now takes a request message .. and sends it whole with the
-- picked fence, read in demand 3 as that whole send; if the ring refuses, table and last fence stay.'
use Rattle.std.specs.Prelude.{ℕ, cond, List, [], eqb}
use Rattle.message.specs.Header.{with_fence}
use Rattle.channel.specs.State.{State}
use Rattle.channel.specs.Outcome as channel
use Rattle.channel.specs.Send
use Rattle.requests.specs.declared.planning.Answer.{Answer}
use Rattle.requests.specs.Calls.{Wall, open_number, picked_fence, open_by}

-- the message that is sent: the caller's 'with the picked fence'
abbrev pub sent_for : Wall → List ℕ → List ℕ
sent_for w m = with_fence (picked_fence w) m

-- what the channel's sender gives: where the wall does not refuse, the whole send of that message; else nothing is sent.
-- Its number is the opening's, 'the ring's own' last
unfoldable pub send_for : Wall → ℕ → List ℕ → State → List ℕ → List ℕ → channel.Outcome
send_for w room m s d b =
    cond (eqb (open_number w room m) 0) (Send.whole s (sent_for w m) d b) (channel.refused (open_number w room m) s d b [])

-- what an opening gives: its answer, the wall, the sender's state, and the memory of its channel
pub record Sent : Type 0 where
  pub answer : Answer
  pub wall : Wall
  pub next : State
  pub desc : List ℕ
  pub buf : List ℕ

unfoldable pub sending : Wall → ℕ → List ℕ → State → List ℕ → List ℕ → Sent
sending w room m s d b =
    let x = send_for w room m s d b in
    let y = open_by x.code w room m in
    record { answer = y.answer; wall = y.wall; next = x.next; desc = x.desc; buf = x.buf }
