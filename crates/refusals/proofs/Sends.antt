-- The calls of a send leave what Demand1 asks. Assumes nothing.
use Prim.Native.Nat.{ℕ, ◌+◌, ◌%◌}
use mathlib.Core.Path.{◌≡◌, refl}
use mathlib.Core.Bool.{Bool, true, false}
use mathlib.Core.List.{List, []}
use native.Mathlib.Omega.{arith}
use lib.ListN.{length, get_or, set}
use lib.Dec.{eqb}
use Rattle.ring.specs.AtOnce.{send_by}
use Rattle.ring.specs.Numbers.{first_needs, look_needs, marked, need, number_at, send_decision, send_look_needs}
use Rattle.ring.specs.Ring.{TAIL}
use Rattle.runs.specs.Buffer.{stored}
use Rattle.channel.specs.State.{State, idle_at}
use Rattle.channel.specs.Send
use Rattle.channel.proofs.SendAtOnce.{send-at-once, send_outcome}
use Rattle.channel.specs.Steps.{next_place, past_message}
use Rattle.channel.specs.Operations.{send_look, send_move, send_publish, send_whole}
use Rattle.refusals.specs.Left.{state_left, descriptor_left}
use Rattle.refusals.proofs.Laws.{Alike, going_on, looking_send, mild_none, mild_set}
use Rattle.refusals.proofs.Laws.{not_one, one-first, one-need, one_of}
use Rattle.refusals.proofs.Says.{Accepts, Says, refusal, says}

-- ---- which numbers

pub one-look : (fits : Bool) (own : ℕ) (m d : List ℕ) (n : ℕ) → one_of looking_send (number_at fits own m d n) ≡ true
unfolding one_of send_decision send_look_needs look_needs
one-look fits own m d n =
    let next = one-need looking_send in
    one-first looking_send _ _ _ _ refl refl refl
    (next _ 4 _ refl (next _ 6 _ refl (next _ 7 _ refl (next _ 8 _ refl (next _ 10 _ refl refl)))))

-- of a move or a publish: a test after 1 to 3
pub one_on : (d n : ℕ) (fits test : Bool) → one_of going_on (first_needs d n fits (need test 12 0)) ≡ true
unfolding one_of
one_on d n fits test =
    let next = one-need going_on in
    one-first going_on _ _ _ _ refl refl refl (next _ 12 _ refl refl)

-- ---- the steps

look_alike :
    (fits : Bool) (own : ℕ) (m : List ℕ) (n : ℕ) (d e : List ℕ) → Alike d e
    → number_at fits own m d n ≡ number_at fits own m e n
unfolding send_decision
look_alike fits own m n d e a = rw (a.size, a.heads, a.tails, a.statuses)

module _ (s : State) (m b : List ℕ) where
  look-refuses :
      (c : ℕ) (d : List ℕ) → eqb c 0 ≡ false → one_of looking_send c ≡ true
      → Send.look_by c s m d b ≡ refusal c (send_look m) s b d
  unfolding Send.look_by marked descriptor_left state_left one_of
  look-refuses c d z p = rw (z, not_one looking_send c 13 p refl)

  look-accepts : Accepts (λ (d : List ℕ). Send.look_by 0 s m d b)
  unfolding Send.look_by marked
  look-accepts =
      record { len = 0; next = Send.loaded s m; change = λ d. d; buf = b; out = []; is_mild = mild_none; same = λ d. refl }

  pub send-look : Says (send_look m) s b (λ (d : List ℕ). Send.look_number s m d b)
  send-look =
      says _ _ _ _ (λ d. Send.look_number s m d b) (λ c d. Send.look_by c s m d b)
      (λ d. refl) (λ d. one-look _ _ m d _) (look_alike _ _ m _) look-accepts look-refuses

  whole-refuses :
      (c : ℕ) (d : List ℕ) → eqb c 0 ≡ false → one_of looking_send c ≡ true
      → send_outcome s (send_by c s.own m d b) ≡ refusal c (send_whole m) s b d
  unfolding send_by marked descriptor_left state_left one_of
  whole-refuses c d z p = rw (z, not_one looking_send c 13 p refl)

  whole-accepts : Accepts (λ (d : List ℕ). send_outcome s (send_by 0 s.own m d b))
  unfolding send_by
  whole-accepts =
      record {
        len = 0;
        next = idle_at s.n ((s.own + length m) % length b);
        change = λ d. set d TAIL ((s.own + length m) % length b);
        buf = stored b (length b) s.own m;
        out = [];
        is_mild = mild_set TAIL ((s.own + length m) % length b) (omega arith);
        same = λ d. refl;
      }

  pub send-whole : Says (send_whole m) s b (λ (d : List ℕ). Send.look_number s m d b)
  send-whole =
      says _ _ _ _ (λ d. Send.look_number s m d b) (λ c d. send_outcome s (send_by c s.own m d b))
      (λ d. send-at-once s m d b) (λ d. one-look _ _ m d _) (look_alike _ _ m _) whole-accepts whole-refuses

module _ (s : State) (b : List ℕ) where
  move-one : (d : List ℕ) → one_of going_on (Send.move_number s d b) ≡ true
  unfolding Send.move_number
  move-one d = one_on _ _ _ _

  move_alike : (d e : List ℕ) → Alike d e → Send.move_number s d b ≡ Send.move_number s e b
  unfolding Send.move_number
  move_alike d e a = rw a.size

  move-refuses :
      (c : ℕ) (d : List ℕ) → eqb c 0 ≡ false → one_of going_on c ≡ true → Send.move_by c s d b ≡ refusal c send_move s b d
  unfolding Send.move_by descriptor_left state_left one_of
  move-refuses c d z p =
      rw (z, not_one going_on c 7 p refl, not_one going_on c 8 p refl, not_one going_on c 9 p refl, not_one going_on c 13 p refl)

  move-accepts : Accepts (λ (d : List ℕ). Send.move_by 0 s d b)
  unfolding Send.move_by
  move-accepts =
      record {
        len = 0;
        next = Send.after_move s;
        change = λ d. d;
        buf = set b (next_place s b) (get_or s.copy s.moved 0);
        out = [];
        is_mild = mild_none;
        same = λ d. refl;
      }

  pub send-move : Says send_move s b (λ (d : List ℕ). Send.move_number s d b)
  send-move =
      says _ _ _ _ (λ d. Send.move_number s d b) (λ c d. Send.move_by c s d b)
      (λ d. refl) move-one move_alike move-accepts move-refuses

  publish-one : (d : List ℕ) → one_of going_on (Send.publish_number s d b) ≡ true
  unfolding Send.publish_number
  publish-one d = one_on _ _ _ _

  publish_alike : (d e : List ℕ) → Alike d e → Send.publish_number s d b ≡ Send.publish_number s e b
  unfolding Send.publish_number
  publish_alike d e a = rw a.size

  publish-refuses :
      (c : ℕ) (d : List ℕ) → eqb c 0 ≡ false → one_of going_on c ≡ true
      → Send.publish_by c s d b ≡ refusal c send_publish s b d
  unfolding Send.publish_by descriptor_left state_left one_of
  publish-refuses c d z p =
      rw (z, not_one going_on c 7 p refl, not_one going_on c 8 p refl, not_one going_on c 9 p refl, not_one going_on c 13 p refl)

  publish-accepts : Accepts (λ (d : List ℕ). Send.publish_by 0 s d b)
  unfolding Send.publish_by
  publish-accepts =
      record {
        len = 0;
        next = idle_at s.n (past_message s b);
        change = λ d. set d TAIL (past_message s b);
        buf = b;
        out = [];
        is_mild = mild_set TAIL (past_message s b) (omega arith);
        same = λ d. refl;
      }

  pub send-publish : Says send_publish s b (λ (d : List ℕ). Send.publish_number s d b)
  send-publish =
      says _ _ _ _ (λ d. Send.publish_number s d b) (λ c d. Send.publish_by c s d b)
      (λ d. refl) publish-one publish_alike publish-accepts publish-refuses
