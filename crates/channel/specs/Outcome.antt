-- What a step or a whole call gives: the answer and the lent memory afterwards.
use Rattle.std.specs.Prelude.{ℕ, List, [], Result}
use Rattle.channel.specs.State.{State, of_sender, of_receiver}
use Rattle.channel.specs.declared.sending.Sender.{Sender}
use Rattle.channel.specs.declared.receiving.Receiver.{Receiver}
use Rattle.refusal.specs.declared.Refusal.{Refusal}
use Rattle.refusal.specs.Numbers.{number_of}
use Rattle.ring.specs.AtOnce.{len_of}

-- the number, L (0 where the answer has none), the next state, the descriptor, the buffer and the output (no dword
-- where none is lent)
pub record Outcome : Type 0 where
  pub code : ℕ
  pub len : ℕ
  pub next : State
  pub desc : List ℕ
  pub buf : List ℕ
  pub out : List ℕ

-- the outcome of each kind of call: what it answers, with the side and the lent memory as the call leaves them
abbrev pub sent : Result (Unit {0}) Refusal → Sender → List ℕ → List ℕ → Outcome
sent r s d b = record { code = number_of r; len = 0; next = of_sender s; desc = d; buf = b; out = [] }

abbrev pub stepped : Result (Unit {0}) Refusal → Receiver → List ℕ → List ℕ → Outcome
stepped r s d b = record { code = number_of r; len = 0; next = of_receiver s; desc = d; buf = b; out = [] }

abbrev pub received : Result ℕ Refusal → Receiver → List ℕ → List ℕ → List ℕ → Outcome
received r s d b o = record { code = number_of r; len = len_of r; next = of_receiver s; desc = d; buf = b; out = o }

-- a refusal: 'The state comes back unchanged'; the lent memory is as given here
abbrev pub refused : ℕ → State → List ℕ → List ℕ → List ℕ → Outcome
refused c s d b o = record { code = c; len = 0; next = s; desc = d; buf = b; out = o }
