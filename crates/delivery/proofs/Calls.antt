-- The loopback's three calls in code, each on what the one before left, are the loop of the definitions. Assumes
-- nothing.
use mathlib.Core.Path.{◌≡◌, refl, ap, ◌∙◌}
use mathlib.Core.List.{List}
use Prim.Native.Nat.{ℕ}
use mathlib.Core.Bool.{true}
use lib.ListN.{length}
use lib.Dec.{eqb}
use borrow.Author.Tests.{eqb-true}
use Rattle.ring.specs.Ring.{allowed}
use Rattle.channel.specs.State.{of_sender, of_receiver}
use Rattle.ring.specs.Numbers.{need}
use Rattle.channel.specs.Outcome.{Outcome, sent, received}
use Rattle.channel.specs.Opening.{Opening, open_number, open_by, opened, opening}
use Rattle.channel.specs.Send
use Rattle.channel.specs.Receive
use Rattle.channel.specs.declared.opening.Opened.{Opened}
use Rattle.channel.specs.declared.sending.Sender.{Sender}
use Rattle.channel.specs.declared.receiving.Receiver.{Receiver}
use Rattle.std.proofs.Common.{Result}
use Rattle.refusal.specs.declared.Refusal.{Refusal}
use Rattle.ring.proofs.Chains.{passed, passed_rest}
use Rattle.delivery.specs.Operations.{begun}
use Rattle.delivery.specs.Loopback.{first_send, first_receive, loop, looped}

-- a channel that opens has a descriptor of 16 dwords and an allowed N
pub opens_sixteen : (d b : List ℕ) → (opening d b).code ≡ 0 → length d ≡ 16
unfolding open_by open_number
opens_sixteen d b e = eqb-true (length d) 16 (passed (eqb (length d) 16) 1 (need (allowed (length b)) 2 0) 0 refl e)

pub opens-allowed : (d b : List ℕ) → (opening d b).code ≡ 0 → allowed (length b) ≡ true
unfolding open_by open_number
opens-allowed d b e =
    passed (allowed (length b)) 2 0 0 refl (passed_rest (eqb (length d) 16) 1 (need (allowed (length b)) 2 0) 0 refl e)

pub loop_calls :
    (d b m o : List ℕ) (x : Opened) (d₁ : List ℕ) (a : Result (Unit {0}) Refusal) (s : Sender) (d₂ b₂ : List ℕ)
    (r : Result ℕ Refusal) (t : Receiver) (d₃ o₃ : List ℕ)
    → opened x d₁ b ≡ opening d b
    → sent a s d₂ b₂ ≡ Send.whole (of_sender x.sender) m d₁ b
    → received r t d₃ b₂ o₃ ≡ Receive.whole (of_receiver x.receiver) o d₂ b₂
    → looped (record { opened = x.answer; sent = a; received = r }) d₃ b₂ o₃ ≡ loop d b m o
unfolding loop begun
loop_calls d b m o x d₁ a s d₂ b₂ r t d₃ o₃ e f g =
    let send : sent a s d₂ b₂ ≡ first_send d b m = f ∙ ap (λ (y : Opening). Send.whole y.sender m y.desc y.buf) e in
    let receive : received r t d₃ b₂ o₃ ≡ first_receive d b m o =
    g ∙ ap (λ (y : Opening). Receive.whole y.receiver o d₂ b₂) e
    ∙ ap (λ (y : Outcome). Receive.whole (opening d b).receiver o y.desc y.buf) send in
    λ i. record {
      opened = (e i).code;
      sent = (send i).code;
      received = (receive i).code;
      len = (receive i).len;
      desc = (receive i).desc;
      buf = (receive i).buf;
      out = (receive i).out;
    }
