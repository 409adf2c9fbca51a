-- The channel's states, descriptor and buffer as a function of the plain channel, and what holds of the plain channel
-- always. Assumes nothing.
use mathlib.Core.Path.{◌≡◌, refl}
use mathlib.Core.Bool.{Bool, true, false, not}
use mathlib.Core.List.{List, [], ◌∷◌, ◌++◌}
use Prim.Native.Nat.{ℕ, ◌+◌, ◌-◌, ◌%◌, ◌≤◌, ◌<◌}
use native.Mathlib.Nat.{mod-lt}
use native.Mathlib.Omega.{arith}
use borrow.Author.Tests.{eqb-true, eqb-false, lt-ltb, le-ltb, eq-eqb}
use lib.ListN.{length, take, replicate}
use lib.Dec.{ltb, eqb}
use Rattle.message.specs.Header.{is_message}
use Rattle.message.proofs.Formed.{message_long}
use Rattle.ring.specs.Numbers.{first_needs, look_needs, need}
use Rattle.ring.specs.Ring.{allowed, head, status, tail, used}
use Rattle.runs.specs.Buffer.{window}
use Rattle.channel.specs.State.{State, idle_at}
use Rattle.ring.proofs.Chains.{allowed-low}
use Rattle.message.proofs.Tests.{cases}
use Rattle.runs.proofs.Ring.{gap}
use Rattle.delivery.specs.Operations.{Channel}
use Rattle.delivery.specs.Plain.{Plain, Receiving, Sending, descriptor, first, not_receiving, not_sending, receiving, sending}
use Rattle.delivery.proofs.Queue.{flat}

-- a plain channel by its parts
abbrev pub plain : ℕ → List ℕ → List (List ℕ) → ℕ → ℕ → Sending → Receiving → Plain
plain n b q P R s r = record { n = n; buf = b; queue = q; P = P; R = R; send = s; receive = r }

-- ---- the channel, from the plain channel

abbrev pub send_state : ℕ → ℕ → Sending → State
send_state n P not_sending = idle_at n (P % n)
send_state n P (sending k m) =
    record { n = n; own = P % n; len = length m; moved = k; copy = m ++ replicate (256 - length m) 0 }

abbrev pub receive_state : ℕ → ℕ → List ℕ → Receiving → State
receive_state n R m not_receiving = idle_at n (R % n)
receive_state n R m (receiving k) =
    record { n = n; own = R % n; len = length m; moved = k; copy = take k m ++ replicate (256 - k) 0 }

abbrev pub sender_of : Plain → State
sender_of p = send_state p.n p.P p.send

abbrev pub receiver_of : Plain → State
receiver_of p = receive_state p.n p.R (first p.queue) p.receive

abbrev pub channel_of : Plain → Channel
channel_of p = record { sender = sender_of p; receiver = receiver_of p; desc = descriptor p; buf = p.buf }

-- ---- what holds of the plain channel

abbrev pub AllMessages : List (List ℕ) → Type 0
AllMessages [] = Unit {0}
AllMessages (m ∷ q) = (is_message m ≡ true) × AllMessages q

-- of a send mid-call: its message fits beside the queue, and k dwords of it lie past what is published
pub record MidSend (n : ℕ) (b : List ℕ) (q : List (List ℕ)) (P k : ℕ) (m : List ℕ) : Type 0 where
  pub is_message_fact : is_message m ≡ true
  pub up_to : k ≤ length m
  pub fits : length (flat q) + length m < n
  pub done : window b n P k ≡ take k m

abbrev pub InvSend : ℕ → List ℕ → List (List ℕ) → ℕ → Sending → Type 0
InvSend n b q P not_sending = Unit {0}
InvSend n b q P (sending k m) = MidSend n b q P k m

-- of a receive mid-call: there is a message, and at least its header is moved
pub record MidReceive (q : List (List ℕ)) (k : ℕ) : Type 0 where
  pub is_message_fact : is_message (first q) ≡ true
  pub start : 1 ≤ k
  pub up_to : k ≤ length (first q)

abbrev pub InvReceive : List (List ℕ) → Receiving → Type 0
InvReceive q not_receiving = Unit {0}
InvReceive q (receiving k) = MidReceive q k

-- the queue lies in the buffer from R on, and P - R is its length, below N
pub record Inv (p : Plain) : Type 0 where
  pub allowed-n : allowed p.n ≡ true
  pub size : length p.buf ≡ p.n
  pub count : p.P ≡ p.R + length (flat p.queue)
  pub room : length (flat p.queue) < p.n
  pub in_buffer : window p.buf p.n p.R (length (flat p.queue)) ≡ flat p.queue
  pub all-messages : AllMessages p.queue
  pub send : InvSend p.n p.buf p.queue p.P p.send
  pub receive : InvReceive p.queue p.receive

-- ---- tests and chains of them

-- what is at most l and not l is below it
pub below_is : (k l : ℕ) → k ≤ l → ltb k l ≡ not (eqb k l)
below_is k l h =
    cases (eqb k l)
    (λ e. rw e (le-ltb k l (omega (arith, eqb-true k l e))))
    (λ e. rw e (lt-ltb k l (omega (arith, eqb-false k l e))))

-- a test of a chain that fails
pub bad : {t : Bool} {c : ℕ} (r : ℕ) → t ≡ false → need t c r ≡ c
unfolding need
bad r e = rw e

pub empty-receiving : {X : Type 0} (k : ℕ) → MidReceive [] k → X
empty-receiving k c = absurd (omega (arith, message_long [] c.is_message_fact))

-- ---- what every step finds in the plain channel's descriptor and buffer

module _ (p : Plain) (g : Inv p) where
  pub n-low : 1024 ≤ p.n
  n-low = allowed-low p.n g.allowed-n

  pub own-send : p.P % p.n < p.n
  own-send = mod-lt p.P (omega (arith, n-low))

  pub own-receive : p.R % p.n < p.n
  own-receive = mod-lt p.R (omega (arith, n-low))

  pub first-needs_ok : (t : Bool) (r : ℕ) → first_needs (length (descriptor p)) (length p.buf) t r ≡ need t 3 r
  unfolding descriptor first_needs need
  first-needs_ok t r = rw (g.size, g.allowed-n)

  pub used_eq : used (length p.buf) (head (descriptor p)) (tail (descriptor p)) ≡ length (flat p.queue)
  unfolding used descriptor
  used_eq = rw (g.size, g.count) (gap p.n p.R (length (flat p.queue)) g.room)

  pub look-needs-send :
      (r : ℕ)
      → look_needs (length p.buf) (p.P % p.n) (tail (descriptor p)) (status (descriptor p)) (head (descriptor p))
      (tail (descriptor p)) r
      ≡ r
  unfolding descriptor look_needs need
  look-needs-send r = rw (g.size, lt-ltb _ _ own-receive, lt-ltb _ _ own-send, eq-eqb (p.P % p.n) (p.P % p.n) refl)

  pub look-needs-receive :
      (r : ℕ)
      → look_needs (length p.buf) (p.R % p.n) (head (descriptor p)) (status (descriptor p)) (head (descriptor p))
      (tail (descriptor p)) r
      ≡ r
  unfolding descriptor look_needs need
  look-needs-receive r = rw (g.size, lt-ltb _ _ own-receive, lt-ltb _ _ own-send, eq-eqb (p.R % p.n) (p.R % p.n) refl)
