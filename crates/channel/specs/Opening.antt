-- Opening a channel (document 01, 'The channel').
use Rattle.std.specs.Prelude.{ℕ, cond, List, length, replicate, eqb}
use Rattle.ring.specs.Ring.{allowed}
use Rattle.channel.specs.State.{State, idle_at, of_sender, of_receiver}
use Rattle.refusal.specs.Numbers.{number_of}
use Rattle.ring.specs.Numbers.{need}
use Rattle.channel.specs.declared.opening.Opened.{Opened}

-- the number, both sides' states, the descriptor and the buffer
pub record Opening : Type 0 where
  pub code : ℕ
  pub sender : State
  pub receiver : State
  pub desc : List ℕ
  pub buf : List ℕ

-- the opening in the answer struct, with the lent memory as the call leaves it
abbrev pub opened : Opened → List ℕ → List ℕ → Opening
opened r d b = record { code = number_of r.answer; sender = of_sender r.sender; receiver = of_receiver r.receiver; desc = d; buf = b }

-- 'It refuses by 1, then 2'
unfoldable pub open_number : ℕ → ℕ → ℕ
open_number descriptor n = need (eqb descriptor 16) 1 (need (allowed n) 2 0)

-- 'Opening zeroes the descriptor, leaves the buffer, and gives both sides idle states with own offset 0.' Refused, it
-- 'gives two all-zero states, made for N 0', and leaves all.
unfoldable pub open_by : ℕ → List ℕ → List ℕ → Opening
open_by c d b =
    record {
      code = c;
      sender = idle_at (cond (eqb c 0) (length b) 0) 0;
      receiver = idle_at (cond (eqb c 0) (length b) 0) 0;
      desc = cond (eqb c 0) (replicate 16 0) d;
      buf = b;
    }

abbrev pub opening : List ℕ → List ℕ → Opening
opening d b = open_by (open_number (length d) (length b)) d b
