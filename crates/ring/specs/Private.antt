-- What the crate's private functions answer. No public contract cites these.
use Rattle.std.specs.Prelude.{ℕ, ◌+◌, ◌%◌, ◌<◌, ◌≡◌, not, ◌||◌, cond, List, ◌++◌, length, drop, eqb}
use Rattle.std.specs.Prelude.{Result}
use Rattle.refusal.specs.declared.Refusal.{Refusal}
use Rattle.refusal.specs.Numbers.{number_of}
use Rattle.ring.specs.declared.receiving.WholeReceive.{WholeReceive}
use Rattle.ring.specs.Ring.{used}
use Rattle.runs.specs.Buffer.{stored}
use Rattle.ring.specs.Numbers.{look_needs, need}
use Rattle.ring.specs.AtOnce.{len_of, length_at, message_at, own_after, receive_number}

-- what the descriptor alone says to a receive's look, before the header is read ('if not empty, the header'): all but 9
unfoldable pub pending_number : ℕ → ℕ → ℕ → ℕ → ℕ → ℕ
pending_number n own status hd tl = look_needs n own hd status hd tl (need (not (eqb (used n hd tl) 0)) 11 0)

-- a whole send of number c but for its end: the answer, and the buffer afterwards
pub record PlacedBy (r : Result ℕ Refusal) (c own : ℕ) (m b after : List ℕ) : Type 0 where
  pub code : number_of r ≡ c
  pub own-tail : own_after own r ≡ cond (eqb c 0) ((own + length m) % length b) own
  pub small : c ≡ 0 → own_after own r < 16384
  pub ring : after ≡ cond (eqb c 0) (stored b (length b) own m) b

-- a whole receive of number c but for 13 and its end: the answer, and the output afterwards
pub record TakenBy (r : WholeReceive) (c own : ℕ) (b o after : List ℕ) : Type 0 where
  pub code : number_of r.answer ≡ receive_number c own b
  pub len : len_of r.answer ≡ cond (eqb (number_of r.answer) 0) (length_at own b) 0
  pub own-head : r.own ≡ cond (eqb (number_of r.answer) 0 || eqb (number_of r.answer) 13) ((own + length_at own b) % length b) own
  pub small : c ≡ 0 → r.own < 16384
  pub output : after ≡ cond (eqb (number_of r.answer) 0) (message_at own b ++ drop (length_at own b) o) o
