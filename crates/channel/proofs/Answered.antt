-- What a refused step gives: its number, and all as it was. Assumes nothing.
use Prim.Native.Nat.{ℕ}
use mathlib.Core.Path.{◌≡◌}
use mathlib.Core.List.{List, []}
use Rattle.refusal.specs.declared.Refusal.{Refusal}
use Rattle.refusal.specs.declared.Refusal.TheVariants.{Malformed}
use Rattle.refusal.specs.Numbers.{number}
use Rattle.refusal.proofs.NotZero.{number-not-0}
use Rattle.refusal.proofs.OfNumber.{of-13}
use Rattle.refusal.proofs.Refused.{refuses}
use Rattle.channel.proofs.AllMoves.{all-refused}
use Rattle.channel.specs.Outcome.{refused}
use Rattle.channel.specs.State.{State}
use Rattle.channel.specs.Send
use Rattle.channel.specs.Receive

module _ (r : Refusal) (s : State) (d b : List ℕ) where
  pub send-move-refused : number r ≡ Send.move_number s d b → refused (number r) s d b [] ≡ Send.move s d b
  unfolding Send.move_by
  send-move-refused e = rw (← e, number-not-0 r)

  pub send-publish-refused : number r ≡ Send.publish_number s d b → refused (number r) s d b [] ≡ Send.publish s d b
  unfolding Send.publish_by
  send-publish-refused e = rw (← e, number-not-0 r)

  pub receive-move-refused : number r ≡ Receive.move_number s d b → refused (number r) s d b [] ≡ Receive.move s d b
  unfolding Receive.move_by
  receive-move-refused e = rw (← e, number-not-0 r)

  pub receive-publish-refused :
      (o : List ℕ) → (r ≡ Malformed → ⊥) → number r ≡ Receive.publish_number s o d b
      → refused (number r) s d b o ≡ Receive.publish s o d b
  unfolding Receive.publish_by
  receive-publish-refused o n e = rw (← e, number-not-0 r, of-13 r n)

  -- and all moves in one call
  pub send-all-refused : number r ≡ Send.go_on_number s d b → refused (number r) s d b [] ≡ Send.move_all s d b
  send-all-refused e = all-refused Send.move s d b (number r) (Send.go_on_number s d b) e (refuses r)

  pub receive-all-refused : number r ≡ Receive.go_on_number s d b → refused (number r) s d b [] ≡ Receive.move_all s d b
  receive-all-refused e = all-refused Receive.move s d b (number r) (Receive.go_on_number s d b) e (refuses r)
