-- What is to be shown of each operation beside its answer: the messages, the dwords not released, and the calls run
-- whole. Assumes nothing.
use mathlib.Core.Path.{◌≡◌, refl, ap, ◌∙◌}
use mathlib.Core.List.{List, [], ◌∷◌, ◌++◌, map, append-nil}
use Prim.Native.Nat.{ℕ}
use lib.ListN.{length, get_or, take}
use Rattle.runs.specs.Buffer.{stored}
use Rattle.delivery.specs.Demand.{Call, Result, Unreleased, answers, ended_by, held, published_by, received_by, result, wholes}
use Rattle.channel.specs.Operations.{Op}
use Rattle.delivery.specs.Operations.{plain_outcome, plain_end, plain_run, plain_seen}
use Rattle.delivery.specs.Plain.{PlainOutcome, Plain, Sending, not_receiving, not_sending, sending}
use Rattle.delivery.proofs.Invariant.{plain}
use Rattle.delivery.proofs.Wholes.{refusal}

-- what a send mid-call has stored
abbrev pub done : Sending → List ℕ
done not_sending = []
done (sending k m) = take k m

-- c is the message of a send that is mid-call
abbrev pub HoldsMessage : List ℕ → Sending → Type 0
HoldsMessage c not_sending = Unit {0}
HoldsMessage c (sending k m) = c ≡ m

-- the channel on which the ended calls were run whole, with buffer z
abbrev pub serial_of : Plain → List ℕ → Plain
serial_of p z = plain p.n z p.queue p.P p.R not_sending not_receiving

-- its buffer: what a send mid-call has stored is all that it lacks
abbrev pub Lacks : Plain → List ℕ → Type 0
Lacks p z = p.buf ≡ stored z p.n p.P (done p.send)

pub record RanWhole (p : Plain) (z : List ℕ) (x : PlainOutcome) (cs : List Call) : Type 0 where
  pub z' : List ℕ
  pub lin : Lacks x.next z'
  pub to : plain_end (serial_of p z) (wholes cs) ≡ serial_of x.next z'
  pub gave : map result (plain_run (serial_of p z) (wholes cs)) ≡ answers cs

pub record StepFacts (p : Plain) (o : Op) (x : PlainOutcome) : Type 0 where
  pub flow :
      (c : List ℕ) → HoldsMessage c p.send
      → p.queue ++ published_by c o (plain_seen x) ≡ received_by o (plain_seen x) ++ x.next.queue
  pub holds : (c : List ℕ) → HoldsMessage c p.send → HoldsMessage (held c o (plain_seen x)) x.next.send
  pub keeps : (j : ℕ) → Unreleased p j → get_or x.next.buf j 0 ≡ get_or p.buf j 0
  pub ran :
      (c : List ℕ) → HoldsMessage c p.send → (e : List ℕ) → length e ≡ 256 → (z : List ℕ) → Lacks p z
      → RanWhole p z x (ended_by e c o (plain_seen x))

-- nothing ended, nothing changed for the calls run whole
pub same_run :
    (p : Plain) (z : List ℕ) (x : PlainOutcome) → serial_of p z ≡ serial_of x.next z → Lacks x.next z
    → RanWhole p z x []
unfolding plain_end plain_run
same_run p z x e l = record { z' = z; lin = l; to = e; gave = refl }

-- one call ended: w, answered g
pub one-run :
    (p : Plain) (z z' : List ℕ) (x y : PlainOutcome) (w : Op) (g : Result) → plain_outcome (serial_of p z) w ≡ y
    → y.next ≡ serial_of x.next z' → result (plain_seen y) ≡ g → Lacks x.next z'
    → RanWhole p z x (record { op = w; answer = g } ∷ [])
unfolding plain_end plain_run
one-run p z z' x y w g e f h l =
    record {
      z' = z';
      lin = l;
      to = ap (λ (u : PlainOutcome). u.next) e ∙ f;
      gave = ap (λ (u : PlainOutcome). result (plain_seen u) ∷ []) e ∙ ap (λ (u : Result). u ∷ []) h;
    }

-- a refusal that ends no call
pub no_facts :
    (p : Plain) (o : Op) (c : ℕ) (w : List ℕ)
    → ((k : List ℕ) → published_by k o (plain_seen (refusal c w p)) ≡ [])
    → received_by o (plain_seen (refusal c w p)) ≡ [] → ((k : List ℕ) → held k o (plain_seen (refusal c w p)) ≡ k)
    → ((e k : List ℕ) → ended_by e k o (plain_seen (refusal c w p)) ≡ []) → StepFacts p o (refusal c w p)
no_facts p o c w s l k e =
    record {
      flow = λ c h. rw (s c, l) (append-nil p.queue);
      holds = λ c h. rw (k c) h;
      keeps = λ j h. refl;
      ran = λ c h d i z l. rw (e d c) (same_run p z (refusal _ w p) refl l);
    }
