-- The channel answers every list of operations as the plain channel does. Assumes nothing.
use mathlib.Core.Path.{◌≡◌, refl, sym, ap, ◌∙◌}
use mathlib.Core.Bool.{true}
use mathlib.Core.List.{List, [], ◌∷◌}
use Prim.Native.Nat.{ℕ}
use native.Mathlib.Nat.{zero-mod}
use native.Mathlib.Omega.{arith}
use borrow.Author.Tests.{eq-eqb}
use lib.ListN.{length}
use Rattle.ring.specs.Numbers.{need}
use Rattle.channel.specs.Opening.{open_by, open_number, opening}
use Rattle.channel.specs.Outcome.{Outcome}
use Rattle.ring.specs.Ring.{allowed}
use Rattle.runs.specs.Buffer.{window}
use Rattle.ring.proofs.Chains.{allowed-low}
use Rattle.channel.specs.Operations.{Op, receive_look, receive_move, receive_publish, receive_whole, send_look}
use Rattle.channel.specs.Operations.{send_move, send_publish, send_whole, the_receiver, the_sender}
use Rattle.delivery.specs.Operations.{Channel, after, begun, end, with_next, outcome}
use Rattle.delivery.specs.Operations.{plain_outcome, plain_end, plain_run, plain_seen, run, seen}
use Rattle.delivery.specs.Plain.{PlainOutcome, Plain, descriptor, fresh}
use Rattle.delivery.proofs.Invariant.{Inv, channel_of}
use Rattle.delivery.proofs.Queue.{flat}
use Rattle.delivery.proofs.ReceiveSteps.{ReceiveSim}
use Rattle.delivery.proofs.SendSteps.{SendSim}
use Rattle.delivery.proofs.ReceiveSteps
use Rattle.delivery.proofs.WholeReceive
use Rattle.delivery.proofs.SendSteps

pub record Sim (p : Plain) (a : Outcome) (y : Channel) (x : PlainOutcome) : Type 0 where
  pub same : seen a ≡ plain_seen x
  pub ends : y ≡ channel_of x.next
  pub good : Inv x.next

by_s : (p : Plain) (a : Outcome) (x : PlainOutcome) → SendSim p a x → Sim p a (with_next the_sender (channel_of p) a) x
by_s p a x l =
    record {
      same = ap seen l.same;
      ends = λ i. record { sender = (l.same i).next; receiver = sym l.other i; desc = (l.same i).desc; buf = (l.same i).buf };
      good = l.good;
    }

by_r : (p : Plain) (a : Outcome) (x : PlainOutcome) → ReceiveSim p a x → Sim p a (with_next the_receiver (channel_of p) a) x
by_r p a x l =
    record {
      same = ap seen l.same;
      ends = λ i. record { sender = sym l.other i; receiver = (l.same i).next; desc = (l.same i).desc; buf = (l.same i).buf };
      good = l.good;
    }

pub step_sim : (p : Plain) → Inv p → (o : Op) → Sim p (outcome (channel_of p) o) (after (channel_of p) o) (plain_outcome p o)
step_sim p g (send_look m) = by_s p _ _ (SendSteps.look_sim p g m)
step_sim p g send_move = by_s p _ _ (SendSteps.move_sim p g)
step_sim p g send_publish = by_s p _ _ (SendSteps.pub_sim p g)
step_sim p g (send_whole m) = by_s p _ _ (SendSteps.whole_sim p g m)
step_sim p g receive_look = by_r p _ _ (ReceiveSteps.look_sim p g)
step_sim p g receive_move = by_r p _ _ (ReceiveSteps.move_sim p g)
step_sim p g (receive_publish o) = by_r p _ _ (ReceiveSteps.pub_sim p g o)
step_sim p g (receive_whole o) = by_r p _ _ (WholeReceive.whole_sim p g o)

pub run_sim : (p : Plain) → Inv p → (list : List Op) → run (channel_of p) list ≡ plain_run p list
unfolding run plain_run
run_sim p g [] = refl
run_sim p g (o ∷ os) =
    let h : Sim p (outcome (channel_of p) o) (after (channel_of p) o) (plain_outcome p o) = step_sim p g o in
    λ i. h.same i ∷ (ap (λ (y : Channel). run y os) h.ends ∙ run_sim (plain_outcome p o).next h.good os) i

pub end_sim : (p : Plain) → Inv p → (list : List Op) → end (channel_of p) list ≡ channel_of (plain_end p list)
unfolding end plain_end
end_sim p g [] = refl
end_sim p g (o ∷ os) =
    let h : Sim p (outcome (channel_of p) o) (after (channel_of p) o) (plain_outcome p o) = step_sim p g o in
    ap (λ (y : Channel). end y os) h.ends ∙ end_sim (plain_outcome p o).next h.good os

pub end-good : (p : Plain) → Inv p → (list : List Op) → Inv (plain_end p list)
unfolding plain_end
end-good p g [] = g
end-good p g (o ∷ os) = end-good (plain_outcome p o).next (step_sim p g o).good os

-- ---- opening

pub fresh-good : (b : List ℕ) → allowed (length b) ≡ true → Inv (fresh (length b) b)
unfolding flat window
fresh-good b a =
    record {
      allowed-n = a;
      size = refl;
      count = refl;
      room = omega (arith, allowed-low (length b) a);
      in_buffer = refl;
      all-messages = tt;
      send = tt;
      receive = tt;
    }

pub begin_eq : (d b : List ℕ) → length d ≡ 16 → allowed (length b) ≡ true → begun d b ≡ channel_of (fresh (length b) b)
unfolding begun open_by open_number need descriptor
begin_eq d b e a = rw (eq-eqb (length d) 16 e, a, zero-mod (length b))

pub open_code : (d b : List ℕ) → length d ≡ 16 → allowed (length b) ≡ true → (opening d b).code ≡ 0
unfolding open_by open_number need
open_code d b e a = rw (eq-eqb (length d) 16 e, a)
