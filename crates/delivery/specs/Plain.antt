-- Document 01, 'The plain channel', in its words and order.
use Rattle.std.specs.Prelude.{ℕ, zero, suc, ◌+◌, ◌-◌, ◌%◌, Bool, true, false, not, cond, List, [], ◌∷◌, ◌++◌, length, get_or, drop, set, replicate, leb, eqb}
use Rattle.message.specs.Header.{is_message}
use Rattle.ring.specs.Numbers.{need}

-- 'for each side whether it is mid-call (not at first), with k dwords moved and a send's message'
pub data Sending : Type 0 where
  not_sending : Sending
  sending : ℕ → List ℕ → Sending

pub data Receiving : Type 0 where
  not_receiving : Receiving
  receiving : ℕ → Receiving

-- 'It keeps the buffer, a queue of messages (empty at first), counts P and R of dwords published and released (0 at
-- first)'
pub record Plain : Type 0 where
  pub n : ℕ
  pub buf : List ℕ
  pub queue : List (List ℕ)
  pub P : ℕ
  pub R : ℕ
  pub send : Sending
  pub receive : Receiving

-- 'It is fed N, the buffer as opened ..'
abbrev pub fresh : ℕ → List ℕ → Plain
fresh n b = record { n = n; buf = b; queue = []; P = 0; R = 0; send = not_sending; receive = not_receiving }

-- 'HEAD is R mod N, TAIL P mod N, the other descriptor words 0.'
unfoldable pub descriptor : Plain → List ℕ
descriptor p = (p.R % p.n) ∷ (p.P % p.n) ∷ replicate 14 0

-- what an operation gives: the number, L, the output after it, and the channel after it. 'A refusal changes nothing;
-- the others answer 0, receives L as above.'
pub record PlainOutcome : Type 0 where
  pub code : ℕ
  pub len : ℕ
  pub out : List ℕ
  pub next : Plain

-- the queue's first message, and the others
abbrev pub first : List (List ℕ) → List ℕ
first [] = []
first (m ∷ q) = m

abbrev pub others : List (List ℕ) → List (List ℕ)
others [] = []
others (m ∷ q) = q

abbrev pub pending : List (List ℕ) → Bool
pending [] = false
pending (m ∷ q) = true

-- '3 if mid-call', else the number c
abbrev pub unless_sending : Sending → ℕ → ℕ
unless_sending not_sending c = c
unless_sending (sending k m) c = 3

abbrev pub unless_receiving : Receiving → ℕ → ℕ
unless_receiving not_receiving c = c
unless_receiving (receiving k) c = 3

-- '3 if not mid-call', else a number from k and the message
abbrev pub go_on_send : Sending → (ℕ → List ℕ → ℕ) → ℕ
go_on_send not_sending f = 3
go_on_send (sending k m) f = f k m

abbrev pub go_on_receive : Receiving → (ℕ → ℕ) → ℕ
go_on_receive not_receiving f = 3
go_on_receive (receiving k) f = f k

-- the channel with another mid-call part of a side, and with another buffer
abbrev pub with_send : Plain → Sending → List ℕ → Plain
with_send p x b = record { n = p.n; buf = b; queue = p.queue; P = p.P; R = p.R; send = x; receive = p.receive }

abbrev pub with_receive : Plain → Receiving → Plain
with_receive p x =
    record { n = p.n; buf = p.buf; queue = p.queue; P = p.P; R = p.R; send = p.send; receive = x }

-- ---- 'Look: 3 if mid-call. Send: 4 if malformed, 10 if L exceeds N - 1 - (P - R), else k = 0.'

unfoldable pub send_look_number : Plain → List ℕ → ℕ
send_look_number p m =
    unless_sending p.send (need (is_message m) 4 (need (leb (length m) (p.n - 1 - (p.P - p.R))) 10 0))

-- 'A look answered 0 makes its side mid-call, a send's with that message'
unfoldable pub send_look_by : ℕ → Plain → List ℕ → PlainOutcome
send_look_by c p m = record { code = c; len = 0; out = []; next = cond (eqb c 0) (with_send p (sending 0 m) p.buf) p }

abbrev pub send_look : Plain → List ℕ → PlainOutcome
send_look p m = send_look_by (send_look_number p m) p m

-- 'Receive: 11 on an empty queue, else k = 1, L its first message's.'
unfoldable pub receive_look_number : Plain → ℕ
receive_look_number p = unless_receiving p.receive (need (pending p.queue) 11 0)

unfoldable pub receive_look_by : ℕ → Plain → PlainOutcome
receive_look_by c p = record { code = c; len = 0; out = []; next = cond (eqb c 0) (with_receive p (receiving 1)) p }

abbrev pub receive_look : Plain → PlainOutcome
receive_look p = receive_look_by (receive_look_number p) p

-- ---- 'Move: 3 if not mid-call, 12 if k = L. A send stores dword k at (P + k) mod N. k grows by 1.'

unfoldable pub send_move_number : Plain → ℕ
send_move_number p = go_on_send p.send (λ k m. need (not (eqb k (length m))) 12 0)

unfoldable pub send_moved : Plain → Sending → Plain
send_moved p not_sending = p
send_moved p (sending k m) = with_send p (sending (k + 1) m) (set p.buf ((p.P + k) % p.n) (get_or m k 0))

unfoldable pub send_move_by : ℕ → Plain → PlainOutcome
send_move_by c p = record { code = c; len = 0; out = []; next = cond (eqb c 0) (send_moved p p.send) p }

abbrev pub send_move : Plain → PlainOutcome
send_move p = send_move_by (send_move_number p) p

unfoldable pub receive_move_number : Plain → ℕ
receive_move_number p = go_on_receive p.receive (λ k. need (not (eqb k (length (first p.queue)))) 12 0)

abbrev pub receive_moved : Receiving → Receiving
receive_moved not_receiving = not_receiving
receive_moved (receiving k) = receiving (k + 1)

unfoldable pub receive_move_by : ℕ → Plain → PlainOutcome
receive_move_by c p =
    record { code = c; len = 0; out = []; next = cond (eqb c 0) (with_receive p (receive_moved p.receive)) p }

abbrev pub receive_move : Plain → PlainOutcome
receive_move p = receive_move_by (receive_move_number p) p

-- ---- 'Publish: 3 if not mid-call; a receive 5 on a short output; 12 if k is below L. Send: the message joins the queue, P grows by L.'

unfoldable pub send_publish_number : Plain → ℕ
send_publish_number p = go_on_send p.send (λ k m. need (leb (length m) k) 12 0)

-- 'a publish answered 0 ends that'
unfoldable pub send_published : Plain → Sending → Plain
send_published p not_sending = p
send_published p (sending k m) =
    record {
      n = p.n;
      buf = p.buf;
      queue = p.queue ++ (m ∷ []);
      P = p.P + length m;
      R = p.R;
      send = not_sending;
      receive = p.receive;
    }

unfoldable pub send_publish_by : ℕ → Plain → PlainOutcome
send_publish_by c p = record { code = c; len = 0; out = []; next = cond (eqb c 0) (send_published p p.send) p }

abbrev pub send_publish : Plain → PlainOutcome
send_publish p = send_publish_by (send_publish_number p) p

-- 'Receive: the queue's first goes to the output's front, R grows by L.'
unfoldable pub receive_publish_number : Plain → List ℕ → ℕ
receive_publish_number p o =
    go_on_receive p.receive (λ k. need (leb 256 (length o)) 5 (need (leb (length (first p.queue)) k) 12 0))

abbrev pub receive_published : Plain → Plain
receive_published p =
    record {
      n = p.n;
      buf = p.buf;
      queue = others p.queue;
      P = p.P;
      R = p.R + length (first p.queue);
      send = p.send;
      receive = not_receiving;
    }

unfoldable pub receive_publish_by : ℕ → Plain → List ℕ → PlainOutcome
receive_publish_by c p o =
    record {
      code = c;
      len = cond (eqb c 0) (length (first p.queue)) 0;
      out = cond (eqb c 0) (first p.queue ++ drop (length (first p.queue)) o) o;
      next = cond (eqb c 0) (receive_published p) p;
    }

abbrev pub receive_publish : Plain → List ℕ → PlainOutcome
receive_publish p o = receive_publish_by (receive_publish_number p o) p o

-- ---- 'Whole call: 3 if mid-call; a receive 5; else look, moves and publish at once, or the look's refusal.'

unfoldable pub send_moves : ℕ → PlainOutcome → PlainOutcome
send_moves zero x = x
send_moves (suc k) x = send_moves k (send_move x.next)

-- after the look: L moves and the publish. The look's own 3 is the whole call's.
unfoldable pub send_after_look : ℕ → PlainOutcome → PlainOutcome
send_after_look l x = cond (eqb x.code 0) (send_publish (send_moves l x).next) x

abbrev pub send_whole : Plain → List ℕ → PlainOutcome
send_whole p m = send_after_look (length m) (send_look p m)

unfoldable pub receive_moves : ℕ → PlainOutcome → PlainOutcome
receive_moves zero x = x
receive_moves (suc k) x = receive_moves k (receive_move x.next)

-- an outcome with the output that is lent beside it
abbrev pub with_output : List ℕ → PlainOutcome → PlainOutcome
with_output o x = record { code = x.code; len = x.len; out = o; next = x.next }

-- after the look, which moved the first dword: L - 1 moves and the publish
unfoldable pub receive_after_look : ℕ → List ℕ → PlainOutcome → PlainOutcome
receive_after_look l o x = cond (eqb x.code 0) (receive_publish (receive_moves (l - 1) x).next o) (with_output o x)

unfoldable pub receive_whole_number : Plain → List ℕ → ℕ
receive_whole_number p o = unless_receiving p.receive (need (leb 256 (length o)) 5 0)

unfoldable pub receive_whole_by : ℕ → Plain → List ℕ → PlainOutcome
receive_whole_by c p o =
    cond (eqb c 0)
    (receive_after_look (length (first p.queue)) o (receive_look p))
    (record { code = c; len = 0; out = o; next = p })

abbrev pub receive_whole : Plain → List ℕ → PlainOutcome
receive_whole p o = receive_whole_by (receive_whole_number p o) p o
