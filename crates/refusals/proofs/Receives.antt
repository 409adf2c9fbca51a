-- The calls of a receive, and opening, leave what Demand1 asks. Assumes nothing.
use Prim.Native.Nat.{ℕ, ◌+◌, ◌%◌}
use mathlib.Core.Path.{◌≡◌, refl}
use mathlib.Core.Bool.{true, false}
use mathlib.Core.List.{List, [], ◌++◌}
use native.Mathlib.Omega.{arith}
use lib.ListN.{length, get_or, take, drop, set}
use lib.Dec.{eqb}
use borrow.Author.Tests.{eqb-true, ne_eqb}
use Rattle.ring.specs.AtOnce.{length_at, message_at, receive_by, receive_number}
use Rattle.ring.specs.Numbers.{look_needs, marked, receive_decision, receive_look_needs, take_decision}
use Rattle.channel.specs.Opening.{open_by, open_number, opening}
use Rattle.ring.specs.Ring.{HEAD}
use Rattle.channel.specs.State.{State, idle, idle_at}
use Rattle.channel.specs.Receive
use Rattle.message.proofs.Tests.{cases}
use Rattle.channel.proofs.ReceiveAtOnce.{receive-at-once, receive_outcome}
use Rattle.channel.specs.Steps.{next_place, past_message}
use Rattle.channel.specs.Operations.{receive_look, receive_move, receive_publish, receive_whole}
use Rattle.refusals.specs.Left.{OpeningRefused, state_left, descriptor_left}
use Rattle.refusals.proofs.Laws.{Alike, going_on, looking_receive, mild_none, mild_set}
use Rattle.refusals.proofs.Laws.{not_one, one-first, one-need, one_of, publishing_receive, whole_receiving}
use Rattle.refusals.proofs.Says.{Accepts, Says, refusal, says}
use Rattle.refusals.proofs.Sends.{one_on}

-- ---- look and move

module _ (s : State) (b : List ℕ) where
  look_one : (d : List ℕ) → one_of looking_receive (Receive.look_number s d b) ≡ true
  unfolding one_of receive_decision receive_look_needs look_needs
  look_one d =
      let next = one-need looking_receive in
      one-first looking_receive _ _ _ _ refl refl refl
      (next _ 6 _ refl (next _ 7 _ refl (next _ 8 _ refl (next _ 9 _ refl (next _ 11 _ refl refl)))))

  look_alike : (d e : List ℕ) → Alike d e → Receive.look_number s d b ≡ Receive.look_number s e b
  unfolding receive_decision
  look_alike d e a = rw (a.size, a.heads, a.tails, a.statuses)

  look-refuses :
      (c : ℕ) (d : List ℕ) → eqb c 0 ≡ false → one_of looking_receive c ≡ true
      → Receive.look_by c s d b ≡ refusal c receive_look s b d
  unfolding Receive.look_by marked descriptor_left state_left one_of
  look-refuses c d z p = rw (z, not_one looking_receive c 13 p refl)

  look-accepts : Accepts (λ (d : List ℕ). Receive.look_by 0 s d b)
  unfolding Receive.look_by marked
  look-accepts =
      record {
        len = 0;
        next = Receive.loaded s (get_or b s.own 0);
        change = λ d. d;
        buf = b;
        out = [];
        is_mild = mild_none;
        same = λ d. refl;
      }

  pub receive-look : Says receive_look s b (λ (d : List ℕ). Receive.look_number s d b)
  receive-look =
      says _ _ _ _ (λ d. Receive.look_number s d b) (λ c d. Receive.look_by c s d b)
      (λ d. refl) look_one look_alike look-accepts look-refuses

  move-one : (d : List ℕ) → one_of going_on (Receive.move_number s d b) ≡ true
  unfolding Receive.move_number
  move-one d = one_on _ _ _ _

  move_alike : (d e : List ℕ) → Alike d e → Receive.move_number s d b ≡ Receive.move_number s e b
  unfolding Receive.move_number
  move_alike d e a = rw a.size

  move-refuses :
      (c : ℕ) (d : List ℕ) → eqb c 0 ≡ false → one_of going_on c ≡ true
      → Receive.move_by c s d b ≡ refusal c receive_move s b d
  unfolding Receive.move_by descriptor_left state_left one_of
  move-refuses c d z p =
      rw (z, not_one going_on c 7 p refl, not_one going_on c 8 p refl, not_one going_on c 9 p refl, not_one going_on c 13 p refl)

  move-accepts : Accepts (λ (d : List ℕ). Receive.move_by 0 s d b)
  unfolding Receive.move_by
  move-accepts =
      record {
        len = 0;
        next = Receive.after_move s (get_or b (next_place s b) 0);
        change = λ d. d;
        buf = b;
        out = [];
        is_mild = mild_none;
        same = λ d. refl;
      }

  pub receive-move : Says receive_move s b (λ (d : List ℕ). Receive.move_number s d b)
  receive-move =
      says _ _ _ _ (λ d. Receive.move_number s d b) (λ c d. Receive.move_by c s d b)
      (λ d. refl) move-one move_alike move-accepts move-refuses

-- ---- publish and whole, which may answer 13

module _ (s : State) (o b : List ℕ) where
  publish-one : (d : List ℕ) → one_of publishing_receive (Receive.publish_number s o d b) ≡ true
  unfolding one_of Receive.publish_number_of
  publish-one d =
      let next = one-need publishing_receive in
      one-first publishing_receive _ _ _ _ refl refl refl (next _ 5 _ refl (next _ 12 _ refl (next _ 13 _ refl refl)))

  publish_alike : (d e : List ℕ) → Alike d e → Receive.publish_number s o d b ≡ Receive.publish_number s o e b
  publish_alike d e a = rw a.size

  publish_13 : (d : List ℕ) → Receive.publish_by 13 s o d b ≡ refusal 13 (receive_publish o) s b d
  unfolding Receive.publish_by descriptor_left state_left
  publish_13 d = refl

  publish-other :
      (c : ℕ) (d : List ℕ) → eqb c 0 ≡ false → one_of publishing_receive c ≡ true → eqb c 13 ≡ false
      → Receive.publish_by c s o d b ≡ refusal c (receive_publish o) s b d
  unfolding Receive.publish_by descriptor_left state_left one_of
  publish-other c d z p t =
      rw (z, t, not_one publishing_receive c 7 p refl, not_one publishing_receive c 8 p refl, not_one publishing_receive c 9 p refl)

  publish-refuses :
      (c : ℕ) (d : List ℕ) → eqb c 0 ≡ false → one_of publishing_receive c ≡ true
      → Receive.publish_by c s o d b ≡ refusal c (receive_publish o) s b d
  publish-refuses c d z p =
      cases (eqb c 13)
      (λ t.
      let e : c ≡ 13 = eqb-true c 13 t in
      rw e (publish_13 d))
      (publish-other c d z p)

  publish-accepts : Accepts (λ (d : List ℕ). Receive.publish_by 0 s o d b)
  unfolding Receive.publish_by
  publish-accepts =
      record {
        len = s.len;
        next = idle_at s.n (past_message s b);
        change = λ d. set d HEAD (past_message s b);
        buf = b;
        out = take s.len s.copy ++ drop s.len o;
        is_mild = mild_set HEAD (past_message s b) (omega arith);
        same = λ d. refl;
      }

  pub receive-publish : Says (receive_publish o) s b (λ (d : List ℕ). Receive.publish_number s o d b)
  receive-publish =
      says _ _ _ _ (λ d. Receive.publish_number s o d b) (λ c d. Receive.publish_by c s o d b)
      (λ d. refl) publish-one publish_alike publish-accepts publish-refuses

  -- the number of a whole receive at once, but for 13 and with it, and its outcome by it
  abbrev take-number : List ℕ → ℕ
  take-number d = take_decision (idle (length b) s) s.own (length o) d (length b) (get_or b s.own 0)

  abbrev pub whole-number : List ℕ → ℕ
  whole-number d = receive_number (take-number d) s.own b

  take-one : (d : List ℕ) → one_of whole_receiving (take-number d) ≡ true
  unfolding one_of take_decision receive_look_needs look_needs
  take-one d =
      let next = one-need whole_receiving in
      one-first whole_receiving _ _ _ _ refl refl refl
      (next _ 5 _ refl (next _ 6 _ refl (next _ 7 _ refl (next _ 8 _ refl (next _ 9 _ refl (next _ 11 _ refl refl))))))

  then_13 : (c : ℕ) → one_of whole_receiving c ≡ true → one_of whole_receiving (receive_number c s.own b) ≡ true
  unfolding one_of receive_number
  then_13 c p =
      cases (eqb c 0) (λ t. rw t (one-need whole_receiving _ 13 0 refl refl)) (λ t. rw t p)

  whole-one : (d : List ℕ) → one_of whole_receiving (whole-number d) ≡ true
  unfolding whole-number
  whole-one d = then_13 _ (take-one d)

  whole_alike : (d e : List ℕ) → Alike d e → whole-number d ≡ whole-number e
  unfolding whole-number take_decision
  whole_alike d e a = rw (a.size, a.heads, a.tails, a.statuses)

  whole_13 : (d : List ℕ) → receive_outcome s (receive_by 13 s.own o d b) ≡ refusal 13 (receive_whole o) s b d
  unfolding receive_by descriptor_left state_left
  whole_13 d = refl

  whole-other :
      (c : ℕ) (d : List ℕ) → eqb c 0 ≡ false → eqb c 13 ≡ false
      → receive_outcome s (receive_by c s.own o d b) ≡ refusal c (receive_whole o) s b d
  unfolding receive_by marked descriptor_left state_left
  whole-other c d z t = rw (z, t)

  whole-refuses :
      (c : ℕ) (d : List ℕ) → eqb c 0 ≡ false → one_of whole_receiving c ≡ true
      → receive_outcome s (receive_by c s.own o d b) ≡ refusal c (receive_whole o) s b d
  whole-refuses c d z p =
      cases (eqb c 13)
      (λ t.
      let e : c ≡ 13 = eqb-true c 13 t in
      rw e (whole_13 d))
      (whole-other c d z)

  whole-accepts : Accepts (λ (d : List ℕ). receive_outcome s (receive_by 0 s.own o d b))
  unfolding receive_by
  whole-accepts =
      record {
        len = length_at s.own b;
        next = idle_at s.n ((s.own + length_at s.own b) % length b);
        change = λ d. set d HEAD ((s.own + length_at s.own b) % length b);
        buf = b;
        out = message_at s.own b ++ drop (length_at s.own b) o;
        is_mild = mild_set HEAD ((s.own + length_at s.own b) % length b) (omega arith);
        same = λ d. refl;
      }

  pub receive-whole : Says (receive_whole o) s b (λ (d : List ℕ). whole-number d)
  unfolding whole-number
  receive-whole =
      says _ _ _ _ whole-number (λ c d. receive_outcome s (receive_by c s.own o d b))
      (λ d. receive-at-once s o d b) whole-one whole_alike whole-accepts whole-refuses

-- ---- opening

pub opening-refused : (d b : List ℕ) → ((opening d b).code ≡ 0 → ⊥) → OpeningRefused d b (opening d b)
unfolding open_by
opening-refused d b z =
    let n : eqb (open_number (length d) (length b)) 0 ≡ false = ne_eqb (open_number (length d) (length b)) 0 z in
    record { descriptor = rw n; buffer = refl; sender = rw n; receiver = rw n }
