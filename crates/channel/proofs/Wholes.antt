-- What a whole call at once says of the state before it and the state that the caller keeps after it, wherever he keeps
-- it. Assumes nothing.
use Prim.Native.Nat.{ℕ, ◌+◌, ◌%◌, ◌<◌, ◌^◌}
use mathlib.Core.Path.{◌≡◌, refl, sym, ap, ◌∙◌}
use mathlib.Core.Bool.{Bool, true, false, ◌||◌}
use mathlib.Core.List.{List, []}
use native.Mathlib.Nat.{mod-lt}
use native.Mathlib.Omega.{arith}
use lib.ListN.{length, get_or}
use lib.Dec.{eqb}
use borrow.Author.Tests.{eqb-true}
use Rattle.message.proofs.Tests.{cases}
use Rattle.channel.specs.State.{State, idle_at, idle}
use Rattle.ring.specs.AtOnce.{AtOnce, len_of, received_end, sent_end, whole_send, send_by, whole_receive, receive_by, receive_number, length_at}
use Rattle.std.proofs.Common.{Result, Ok, Err}
use Rattle.refusal.specs.declared.Refusal.{Refusal}
use Rattle.refusal.specs.Numbers.{number, number_of}
use Rattle.refusal.specs.declared.Refusal.TheVariants.{Malformed}
use Rattle.refusal.proofs.NotZero.{number-not-0}
use Rattle.refusal.proofs.OfNumber.{of-13}
use Rattle.ring.specs.declared.receiving.WholeReceive.{WholeReceive}
use Rattle.ring.specs.Numbers.{number_at, take_decision}
use Rattle.channel.specs.Send
use Rattle.channel.specs.Receive
use Rattle.ring.proofs.Chains.{true_false}
use Rattle.ring.proofs.Taken.{taken_has, take_not_13}
use Rattle.channel.proofs.ReceiveAtOnce.{receive_method}
use Rattle.channel.proofs.SendAtOnce.{send_method}
use Rattle.ring.proofs.Sent.{Accepted, accepted}

-- what the code of a whole call answers and leaves, by the definition at once, from a state s
abbrev pub SentAtOnce : State → List ℕ → List ℕ → List ℕ → Result ℕ Refusal → List ℕ → List ℕ → Type 0
SentAtOnce s m d b r d' b' = sent_end s.own r d' b' ≡ whole_send (idle (length b) s) s.own m d b

abbrev pub ReceivedAtOnce : State → List ℕ → List ℕ → List ℕ → WholeReceive → List ℕ → List ℕ → Type 0
ReceivedAtOnce s o d b r d' o' = received_end r d' b o' ≡ whole_receive (idle (length b) s) s.own o d b

-- what a whole send has that leaves d' and b', where it answers an own tail: it is accepted from an idle state alone,
-- and the state after it is idle at that offset, which fits a word
pub record WholeSent (s : State) (m d b : List ℕ) (own : ℕ) (d' b' : List ℕ) : Type 0 where
  pub from-idle : idle (length b) s ≡ true
  pub own-fits : own < 2 ^ 32
  pub own-moves :
      (x : State) → x ≡ idle_at s.n own
      → record { code = 0; len = 0; next = x; desc = d'; buf = b'; out = [] } ≡ Send.whole s m d b

module _ (s : State) (m d b : List ℕ) (own : ℕ) (d' b' : List ℕ) (e : SentAtOnce s m d b (Ok own) d' b') where
  look-number : number_at (idle (length b) s) s.own m d (length b) ≡ 0
  unfolding send_by
  look-number = sym (ap (λ (x : AtOnce). x.code) e)

  has : Accepted (idle (length b) s) s.own m d (length b)
  has = accepted (idle (length b) s) s.own m d (length b) look-number

  sent-own : own < 2 ^ 32
  unfolding send_by
  sent-own =
      let i = has.enters in
      let o : own ≡ (s.own + length m) % length b = rw look-number at (ap (λ (x : AtOnce). x.own) e) in
      omega (arith, o, mod-lt (s.own + length m) {m = length b} (omega arith), i.low, i.high)

  pub whole_sent : WholeSent s m d b own d' b'
  whole_sent =
      let steps = send_method s m d b (idle (length b) s) (Ok own) d' b' refl e in
      record { from-idle = has.is_fit; own-fits = sent-own; own-moves = λ x q. rw (steps, q) }

-- and where it refuses: the state stays
pub send_refused :
    (s : State) (m d b : List ℕ) (r : Refusal) (d' b' : List ℕ) → SentAtOnce s m d b (Err r) d' b'
    → record { code = number r; len = 0; next = s; desc = d'; buf = b'; out = [] } ≡ Send.whole s m d b
send_refused s m d b r d' b' e = rw (send_method s m d b (idle (length b) s) (Err r) d' b' refl e, number-not-0 r)

-- the same of a whole receive, which moves the own offset where its number is 0 or 13
pub record WholeReceived (s : State) (o d b : List ℕ) (r : WholeReceive) (d' o' : List ℕ) : Type 0 where
  pub from-idle : (eqb (number_of r.answer) 0 || eqb (number_of r.answer) 13) ≡ true → idle (length b) s ≡ true
  pub own-fits : (eqb (number_of r.answer) 0 || eqb (number_of r.answer) 13) ≡ true → r.own < 2 ^ 32
  pub own-moves :
      (eqb (number_of r.answer) 0 || eqb (number_of r.answer) 13) ≡ true → (x : State) → x ≡ idle_at s.n r.own
      → record { code = number_of r.answer; len = len_of r.answer; next = x; desc = d'; buf = b; out = o' } ≡ Receive.whole s o d b
  pub state-stays :
      (eqb (number_of r.answer) 0 || eqb (number_of r.answer) 13) ≡ false
      → record { code = number_of r.answer; len = len_of r.answer; next = s; desc = d'; buf = b; out = o' } ≡ Receive.whole s o d b

module _ (s : State) (o d b : List ℕ) (r : WholeReceive) (d' o' : List ℕ) (e : ReceivedAtOnce s o d b r d' o') where
  taken : ℕ
  taken = take_decision (idle (length b) s) s.own (length o) d (length b) (get_or b s.own 0)

  -- 0 and 13 come after a look that accepts
  took : (eqb (number_of r.answer) 0 || eqb (number_of r.answer) 13) ≡ true → taken ≡ 0
  unfolding taken receive_by receive_number
  took z =
      cases (eqb taken 0) (λ t. eqb-true taken 0 t)
      (λ t.
      let c : number_of r.answer ≡ taken = ap (λ (x : AtOnce). x.code) e ∙ rw t in
      let n = take_not_13 (idle (length b) s) s.own (length o) d (length b) (get_or b s.own 0) in
      true_false (sym z ∙ rw (c, t, n)))

  received-idle : (eqb (number_of r.answer) 0 || eqb (number_of r.answer) 13) ≡ true → idle (length b) s ≡ true
  unfolding taken
  received-idle z = (taken_has _ _ _ _ _ _ (took z)).is_fit

  received-own : (eqb (number_of r.answer) 0 || eqb (number_of r.answer) 13) ≡ true → r.own < 2 ^ 32
  unfolding taken receive_by
  received-own z =
      let i = (taken_has _ _ _ _ _ _ (took z)).enters in
      let k = receive_number taken s.own b in
      let c : (eqb k 0 || eqb k 13) ≡ true = rw (ap (λ (x : AtOnce). x.code) e) at z in
      let q : r.own ≡ (s.own + length_at s.own b) % length b = rw c at (ap (λ (x : AtOnce). x.own) e) in
      omega (arith, q, mod-lt (s.own + length_at s.own b) {m = length b} (omega arith), i.low, i.high)

  pub whole-received : WholeReceived s o d b r d' o'
  whole-received =
      let steps = receive_method s o d b (idle (length b) s) r d' o' refl e in
      record {
        from-idle = received-idle;
        own-fits = received-own;
        own-moves = λ z x q. rw (steps, z, q);
        state-stays = λ z. rw (steps, z);
      }

-- an answer that moves the own offset, or not
abbrev pub Moves : Result ℕ Refusal → Bool → Type 0
Moves a t = (eqb (number_of a) 0 || eqb (number_of a) 13) ≡ t

pub moves-laid : (a : Result ℕ Refusal) (l : ℕ) → a ≡ Ok l → Moves a true
moves-laid a l e = rw e

pub moves-past : (a : Result ℕ Refusal) → a ≡ Err Malformed → Moves a true
moves-past a e = rw e

pub moves-not : (a : Result ℕ Refusal) (r : Refusal) → a ≡ Err r → (r ≡ Malformed → ⊥) → Moves a false
moves-not a r e n = rw (e, number-not-0 r, of-13 r n)
