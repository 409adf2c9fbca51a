-- `asking::received` meets its contract: an answer of 4 holds no message, and one of 0 the message that is decoded.
-- Assumes nothing.
use Prim.Native.Nat.{ℕ}
use mathlib.Core.Path.{◌≡◌, refl, sym, ap, ◌∙◌}
use mathlib.Core.Option.{Option, none, some}
use native.Mathlib.Omega.{arith}
use Rattle.std.specs.Prelude.{Ok, Err}
use Rattle.refusal.specs.declared.Refusal.{Refusal}
use Rattle.refusal.specs.Numbers.{number}
use Rattle.message.specs.Packing.{Answer, refusing, of_unpacked}
use Rattle.message.specs.declared.Message.{Message}
use Rattle.requests.specs.Calls.{heard_of}
use Rattle.requests.proofs.asking.received.Goals as goal

-- what the answer of an unpacking says
none_left : (o : Option Message) (r : Refusal) → of_unpacked (Err r) ≡ refusing 4 o → (o ≡ none) × (number r ≡ 4)
unfolding of_unpacked refusing
none_left none r e = (refl, ap (λ (a : Answer Message). a.number) e)
none_left (some m) r e = let v : none ≡ some m = ap (λ (a : Answer Message). a.value) e in let z : ◌≡◌ {A = ℕ} 0 1 = cc in absurd (omega arith)

some_left : (o : Option Message) (m : Message) → of_unpacked (Ok m) ≡ refusing 4 o → o ≡ some m
unfolding of_unpacked refusing
some_left none m e = absurd (omega (arith, ap (λ (a : Answer Message). a.number) e))
some_left (some x) m e = sym (ap (λ (a : Answer Message). a.value) e)

pub returns-in-Err : goal.returns-in-Err
unfolding heard_of
returns-in-Err c =
    let p = none_left _ _ (sym (ap of_unpacked c.in-Err.is) ∙ c.unpack.ensures) in
    simp (c.number.ensures, p.0, p.1)

pub returns-in-Ok : goal.returns-in-Ok
unfolding heard_of
returns-in-Ok c = c.reply.ensures ∙ rw (some_left _ _ (sym (ap of_unpacked c.in-Ok.is) ∙ c.unpack.ensures))
