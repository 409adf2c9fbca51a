-- The loopback, from demand 3: the two calls answer as the plain channel does, which is computed. Assumes nothing.
use Prim.Native.Nat.{ℕ, ◌+◌, ◌-◌}
use mathlib.Core.Path.{◌≡◌, refl, ap, ◌∙◌}
use mathlib.Core.Bool.{true, false, cond}
use mathlib.Core.List.{List, [], ◌∷◌, ◌++◌}
use native.Mathlib.Omega.{arith}
use lib.ListN.{length, drop}
use lib.Dec.{leb}
use borrow.Author.Tests.{le-leb}
use Rattle.message.specs.Header.{is_message}
use Rattle.message.proofs.Formed.{message_long, message-short}
use Rattle.ring.specs.Numbers.{need}
use Rattle.ring.specs.Ring.{allowed}
use Rattle.runs.specs.Buffer.{stored}
use Rattle.ring.proofs.Chains.{allowed-low, ok}
use Rattle.message.proofs.Tests.{cases}
use Rattle.delivery.specs.Loopback.{ComesBack, Loopback, can_come_back, first_receive, first_send, loop}
use Rattle.channel.specs.Operations.{receive_whole, send_whole}
use Rattle.delivery.specs.Operations.{Seen, plain_run, plain_seen, run, seen}
use Rattle.delivery.specs.Plain.{PlainOutcome, Plain, not_receiving, not_sending}
use Rattle.delivery.specs.Plain
use Rattle.delivery.proofs.Invariant.{bad, plain}
use Rattle.delivery.proofs.Theorem.{demand3}
use Rattle.delivery.proofs.Wholes.{receive-whole-none, receive-whole_ok, receive-whole-short, refusal}
use Rattle.delivery.proofs.Wholes.{room_number, send-whole_ok, send-whole-refused}

-- the plain channel just opened, and with one message sent whole
opened : List ℕ → Plain
opened b = plain (length b) b [] 0 0 not_sending not_receiving

-- what it answers to both calls
plain_send : List ℕ → List ℕ → PlainOutcome
plain_send b m = Plain.send_whole (opened b) m

plain_receive : List ℕ → List ℕ → List ℕ → PlainOutcome
plain_receive b m o = Plain.receive_whole (plain_send b m).next o

module _ (b m o : List ℕ) (a : allowed (length b) ≡ true) where
  -- every message fits a fresh ring
  room : is_message m ≡ true → room_number (length b) 0 0 m ≡ 0
  unfolding room_number
  room f =
      ok 4 f ∙ ok 10 (le-leb (length m) (length b - 1 - (0 - 0)) (omega (arith, message-short m f, allowed-low (length b) a)))

  sent :
      is_message m ≡ true
      → plain_send b m
      ≡ record {
        code = 0;
        len = 0;
        out = [];
        next = plain (length b) (stored b (length b) 0 m) (m ∷ [])
            (0 + length m) 0 not_sending not_receiving;
      }
  unfolding plain_send opened
  sent f = send-whole_ok (length b) b [] 0 0 not_receiving m (room f)

  not_sent : is_message m ≡ false → plain_send b m ≡ refusal 4 [] (opened b)
  unfolding plain_send opened room_number
  not_sent f = send-whole-refused (length b) b [] 0 0 not_receiving m 4 (bad _ f) refl

  came_back :
      is_message m ≡ true → leb 256 (length o) ≡ true
      → plain_receive b m o
      ≡ record {
        code = 0;
        len = length m;
        out = m ++ drop (length m) o;
        next = plain (length b) (stored b (length b) 0 m) []
            (0 + length m) (0 + length m) not_sending not_receiving;
      }
  unfolding plain_receive
  came_back f l =
      rw (sent f)
      (receive-whole_ok (length b) (stored b (length b) 0 m) (0 + length m) 0 not_sending o l m []
      (omega (arith, message_long m f)))

  short : leb 256 (length o) ≡ false → plain_receive b m o ≡ refusal 5 o (plain_send b m).next
  unfolding plain_receive opened
  short l =
      cases (is_message m)
      (λ f. rw (sent f) (receive-whole-short (length b) (stored b (length b) 0 m) (m ∷ []) (0 + length m) 0 not_sending o l))
      (λ f. rw (not_sent f) (receive-whole-short (length b) b [] 0 0 not_sending o l))

  nothing : is_message m ≡ false → leb 256 (length o) ≡ true → plain_receive b m o ≡ refusal 11 o (opened b)
  unfolding plain_receive opened
  nothing f l = rw (not_sent f) (receive-whole-none (length b) b 0 0 not_sending o l)

  module _ (d : List ℕ) (e : length d ≡ 16) where
    -- what is seen of both calls, by demand 3
    both :
        seen (first_send d b m) ∷ seen (first_receive d b m o) ∷ []
        ≡ plain_seen (plain_send b m) ∷ plain_seen (plain_receive b m o) ∷ []
    unfolding run plain_run plain_send plain_receive opened
    both = (demand3 d b e a (send_whole m ∷ receive_whole o ∷ [])).as_plain

    first_same : seen (first_send d b m) ≡ plain_seen (plain_send b m)
    first_same = cc both

    second_same : seen (first_receive d b m o) ≡ plain_seen (plain_receive b m o)
    second_same = cc both

    comes_back :
        (x y : PlainOutcome) → plain_send b m ≡ x → plain_receive b m o ≡ y → x.code ≡ need (is_message m) 4 0
        → y.code ≡ need (leb 256 (length o)) 5 (need (is_message m) 11 0) → y.len ≡ cond (can_come_back m o) (length m) 0
        → y.out ≡ cond (can_come_back m o) (m ++ drop (length m) o) o → ComesBack m o (loop d b m o)
    unfolding loop
    comes_back x y ex ey c₁ c₂ n t =
        record {
          sent = ap (λ (z : Seen). z.code) first_same ∙ ap (λ (z : PlainOutcome). z.code) ex ∙ c₁;
          received = ap (λ (z : Seen). z.code) second_same ∙ ap (λ (z : PlainOutcome). z.code) ey ∙ c₂;
          len = ap (λ (z : Seen). z.len) second_same ∙ ap (λ (z : PlainOutcome). z.len) ey ∙ n;
          out = ap (λ (z : Seen). z.out) second_same ∙ ap (λ (z : PlainOutcome). z.out) ey ∙ t;
        }

pub loopback : Loopback
unfolding need
loopback d b m o e a =
    cases (is_message m)
    (λ f. cases (leb 256 (length o))
    (λ l. comes_back b m o a d e _ _ (sent b m o a f) (came_back b m o a f l) (rw f) (rw (f, l)) (rw (f, l)) (rw (f, l)))
    (λ l. comes_back b m o a d e _ _ (sent b m o a f) (short b m o a l) (rw f) (rw l) (rw (f, l)) (rw (f, l))))
    (λ f. cases (leb 256 (length o))
    (λ l. comes_back b m o a d e _ _ (not_sent b m o a f) (nothing b m o a f l) (rw f) (rw (f, l)) (rw f) (rw f))
    (λ l. comes_back b m o a d e _ _ (not_sent b m o a f) (short b m o a l) (rw f) (rw l) (rw f) (rw f)))
