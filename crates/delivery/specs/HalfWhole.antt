-- Half-whole calls: all the moves that are left of a message, in one call of its side. Such a call is those moves, so
-- that a list of operations in which it stands is the list with these moves in its place, and demand 3, which is of
-- every list, speaks of it already: of its stores and their places, and of what it leaves.
use Rattle.std.specs.Prelude.{ℕ, suc, ◌-◌, ◌≤◌, ◌≡◌, cond, List, [], ◌∷◌, ◌++◌, eqb, length, replicate}
use Rattle.channel.specs.Outcome.{Outcome}
use Rattle.channel.specs.Send
use Rattle.channel.specs.Receive
use Rattle.channel.specs.Operations.{Op, send_move, receive_move, Side, the_sender, the_receiver}
use Rattle.delivery.specs.Operations.{Channel, state_on, with_next, seen, run, end}

-- what the call of a side gives on a channel, by the definition that its contract cites, and the number of 1, 2 and 3,
-- which may refuse it
abbrev pub half_whole : Side → Channel → Outcome
half_whole the_sender x = Send.move_all x.sender x.desc x.buf
half_whole the_receiver x = Receive.move_all x.receiver x.desc x.buf

abbrev pub goes_on : Side → Channel → ℕ
goes_on the_sender x = Send.go_on_number x.sender x.desc x.buf
goes_on the_receiver x = Receive.go_on_number x.receiver x.desc x.buf

-- a move of a side, k of them, and how many are left
abbrev pub move_of : Side → Op
move_of the_sender = send_move
move_of the_receiver = receive_move

abbrev pub moves_of : Side → ℕ → List Op
moves_of side k = replicate k (move_of side)

abbrev pub left : Side → Channel → ℕ
left side x = (state_on side x).len - (state_on side x).moved

-- the operations in whose place a half-whole call stands: none where it is refused
unfoldable pub stands_for : Side → Channel → List Op
stands_for side x = cond (eqb (goes_on side x) 0) (moves_of side (left side x)) []

-- on every channel, of either side
pub record HalfWhole : Type 0 where
  -- the call leaves the channel as those operations do
  pub leaves : (side : Side) (x : Channel) → with_next side x (half_whole side x) ≡ end x (stands_for side x)
  -- refused by 1, 2 or 3, it answers that number
  pub refused : (side : Side) (x : Channel) → (goes_on side x ≡ 0 → ⊥) → (half_whole side x).code ≡ goes_on side x
  -- accepted, it answers 0, and all of the message is moved, where the copy has room for it (a side's copy has 256
  -- dwords)
  pub accepted :
      (side : Side) (x : Channel) → goes_on side x ≡ 0 → (state_on side x).len ≤ length (state_on side x).copy
      → ((half_whole side x).code ≡ 0) × ((half_whole side x).next.moved ≡ (state_on side x).len)
  -- with some left, what is seen of it is what is seen of the last of those moves
  pub last :
      (side : Side) (x : Channel) (k : ℕ) → goes_on side x ≡ 0 → left side x ≡ suc k
      → run x (moves_of side k) ++ (seen (half_whole side x) ∷ []) ≡ run x (moves_of side (suc k))
