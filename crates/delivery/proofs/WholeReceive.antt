-- A whole receive answers as the plain channel does, and keeps the invariant: its steps do. Assumes nothing.
use mathlib.Core.Path.{◌≡◌, refl, ap, ◌∙◌}
use mathlib.Core.Bool.{true}
use mathlib.Core.List.{List}
use Prim.Native.Nat.{ℕ, zero, suc, ◌-◌}
use lib.ListN.{length}
use lib.Dec.{eqb}
use Rattle.channel.specs.Outcome.{Outcome}
use Rattle.channel.specs.Steps.{moves}
use Rattle.channel.specs.Receive
use Rattle.ring.proofs.Chains.{ok}
use Rattle.message.proofs.Tests.{cases}
use Rattle.delivery.specs.Plain.{PlainOutcome, Plain, Receiving, descriptor, first, not_receiving, receiving}
use Rattle.delivery.specs.Plain
use Rattle.delivery.proofs.Invariant.{Inv, bad, first-needs_ok, plain, receiver_of}
use Rattle.delivery.proofs.ReceiveSteps.{ReceiveSim, as_receiver, fits-idle, fits_not, look_sim, move_sim, pub_sim}

pub moves_sim :
    (k : ℕ) (x : PlainOutcome) → Inv x.next
    → ReceiveSim x.next (moves Receive.move k (as_receiver x)) (Plain.receive_moves k x)
unfolding moves Plain.receive_moves
moves_sim zero x g = record { same = refl; other = refl; good = g }
moves_sim (suc k) x g =
    let h : ReceiveSim x.next _ (Plain.receive_move x.next) = move_sim x.next g in
    let y : PlainOutcome = Plain.receive_move x.next in
    let i : ReceiveSim y.next _ (Plain.receive_moves k y) = moves_sim k y h.good in
    record { same = ap (moves Receive.move k) h.same ∙ i.same; other = i.other ∙ h.other; good = i.good }

look-len :
    (p : Plain) → eqb (Plain.receive_look p).code 0 ≡ true
    → (receiver_of (Plain.receive_look p).next).len ≡ length (first p.queue)
unfolding Plain.receive_look_by
look-len p e = rw e

whole_from :
    (p : Plain) (l : ℕ) (o : List ℕ) (a : Outcome) (x : PlainOutcome) → ReceiveSim p a x
    → (eqb x.code 0 ≡ true → (receiver_of x.next).len ≡ l)
    → ReceiveSim p (Receive.after_look o a) (Plain.receive_after_look l o x)
unfolding Receive.after_look Plain.receive_after_look
whole_from p l o a x f e =
    let w : ReceiveSim x.next _ (Plain.receive_moves (l - 1) x) = moves_sim (l - 1) x f.good in
    let y : Plain = (Plain.receive_moves (l - 1) x).next in
    let v : ReceiveSim y (Receive.publish (receiver_of y) o (descriptor y) y.buf) (Plain.receive_publish y o) = pub_sim y w.good o in
    rw f.same
    (cases (eqb x.code 0)
    (λ t. rw t
    (record {
      same =
          ap (λ (i : ℕ). Receive.publish_after o (moves Receive.move (i - 1) (as_receiver x))) (e t)
          ∙ ap (Receive.publish_after o) w.same
          ∙ v.same;
      other = v.other ∙ w.other ∙ f.other;
      good = v.good;
    }))
    (λ t. rw t (record { same = refl; other = f.other; good = f.good })))

whole_code :
    (p : Plain) → Inv p → (o : List ℕ)
    → Receive.whole_number (receiver_of p) o (descriptor p) p.buf ≡ Plain.receive_whole_number p o
unfolding Receive.whole_number Plain.receive_whole_number
whole_code p g o = go p.receive g
  where
    -- the plain channel with another receiver
    chan : Receiving → Plain
    chan r = plain p.n p.buf p.queue p.P p.R p.send r

    go :
        (r : Receiving) → Inv (chan r)
        → Receive.whole_number (receiver_of (chan r)) o (descriptor (chan r)) p.buf ≡ Plain.receive_whole_number (chan r) o
    go not_receiving h = first-needs_ok _ h _ _ ∙ ok 3 (fits-idle p.n p.buf p.P p.R p.send p.queue h)
    go (receiving k) h = first-needs_ok _ h _ _ ∙ bad _ (fits_not p.n p.buf p.P p.R p.send p.queue k h)

whole_by :
    (p : Plain) → Inv p → (o : List ℕ) (c : ℕ)
    → ReceiveSim p (Receive.whole_by c (receiver_of p) o (descriptor p) p.buf) (Plain.receive_whole_by c p o)
unfolding Receive.whole_by Plain.receive_whole_by
whole_by p g o c =
    cases (eqb c 0)
    (λ e. rw e (whole_from p (length (first p.queue)) o _ _ (look_sim p g) (look-len p)))
    (λ e. rw e (record { same = refl; other = refl; good = g }))

pub whole_sim :
    (p : Plain) → Inv p → (o : List ℕ)
    → ReceiveSim p (Receive.whole (receiver_of p) o (descriptor p) p.buf) (Plain.receive_whole p o)
whole_sim p g o = rw (whole_code p g o) (whole_by p g o (Plain.receive_whole_number p o))
