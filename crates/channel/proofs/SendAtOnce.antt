-- A whole send at once is its steps one after another: the law by which the code of a whole send meets its definition.
-- Assumes nothing.
use Prim.Native.Nat.{ℕ, zero, suc, ◌+◌, ◌-◌, ◌%◌, ◌≤◌, ◌<◌}
use mathlib.Core.Path.{◌≡◌, refl, sym, ap, ◌∙◌}
use mathlib.Core.Bool.{Bool, true, false, cond}
use mathlib.Core.List.{List, [], ◌++◌}
use native.Mathlib.Omega.{arith}
use native.Mathlib.Numerals.{add-one}
use lib.ListN.{length, get_or, take, set, replicate, get_or-append}
use lib.Seq.{take_all}
use lib.Dec.{eqb, leb, ltb}
use borrow.Author.Tests.{eqb-true, eq-eqb, le-leb, lt-ltb}
use Rattle.message.proofs.Formed.{message-formed, message-length, message_long, message-short}
use Rattle.ring.specs.AtOnce.{AtOnce, own_after, sent_end, whole_send, send_by}
use Rattle.ring.specs.Numbers.{first_needs, marked, need}
use Rattle.channel.specs.Outcome.{Outcome}
use Rattle.ring.specs.Ring.{TAIL}
use Rattle.runs.specs.Buffer.{stored}
use Rattle.channel.specs.State.{State, active_send, idle, idle_at}
use Rattle.channel.specs.Steps.{moves, move_after}
use Rattle.channel.specs.Send
use Rattle.std.proofs.Common.{Result}
use Rattle.refusal.specs.declared.Refusal.{Refusal}
use Rattle.refusal.specs.Numbers.{number_of}
use Rattle.ring.proofs.Chains.{tested}
use Rattle.message.proofs.Tests.{cases}
use Rattle.channel.proofs.Fits.{idle_same}
use Rattle.ring.proofs.Sent.{Accepted, accepted}
use Rattle.runs.proofs.Ring.{stored-length, stored-take}

-- a whole send that is accepted, as an outcome with the state s before it
abbrev pub send_outcome : State → AtOnce → Outcome
send_outcome s x =
    record {
      code = x.code;
      len = x.len;
      next = cond (eqb x.code 0) (idle_at s.n x.own) s;
      desc = x.desc;
      buf = x.buf;
      out = x.out;
    }

module _ (s : State) (m d b : List ℕ) where
  -- a send after its look and k stores
  sending : ℕ → State
  sending k = record { n = s.n; own = s.own; len = length m; moved = k; copy = m ++ replicate (256 - length m) 0 }

  midway : ℕ → Outcome
  midway k =
      record { code = 0; len = 0; next = sending k; desc = d; buf = stored b (length b) s.own (take k m); out = [] }

  module _ (a : Accepted (idle (length b) s) s.own m d (length b)) (same : s.n ≡ length b) where
    size : (k : ℕ) → length (midway k).buf ≡ length b
    unfolding midway
    size k = stored-length b (length b) s.own (take k m)

    active : (k : ℕ) → k ≤ length m → active_send (length (midway k).buf) (sending k) ≡ true
    unfolding active_send sending
    active k h =
        let f = a.is_message_fact in
        let z : List ℕ = replicate (256 - length m) 0 in
        let e₀ : get_or (m ++ z) 0 0 ≡ get_or m 0 0 = get_or-append m z 0 0 (omega (arith, message_long m f)) in
        let e₁ : get_or (m ++ z) 1 0 ≡ get_or m 1 0 = get_or-append m z 0 1 (omega (arith, message_long m f)) in
        rw (
          size k,
          same,
          e₀,
          e₁,
          eq-eqb (length b) (length b) refl,
          lt-ltb _ _ a.below,
          le-leb _ _ (message_long m f),
          le-leb _ _ (message-short m f),
          le-leb _ _ h,
          eq-eqb _ _ (message-length m f),
        )
        (message-formed m f)

    first-needs_ok : (k : ℕ) (t : Bool) (r : ℕ) → t ≡ true → first_needs (length d) (length (midway k).buf) t r ≡ r
    unfolding first_needs need
    first-needs_ok k t r e = rw (size k, a.enters.sixteen, a.enters.is_allowed, e)

    move-number : (k : ℕ) → k < length m → Send.move_number (sending k) d (midway k).buf ≡ 0
    unfolding Send.move_number sending
    move-number k h = first-needs_ok k _ _ (active k (omega arith)) ∙ tested (ltb k (length m)) 12 (lt-ltb k (length m) h)

    one_more : (k : ℕ) → k < length m → move_after Send.move (midway k) ≡ midway (k + 1)
    unfolding Send.move_by midway sending
    one_more k h =
        let dword = get_or-append m (replicate (256 - length m) 0) 0 k h in
        rw (move-number k h, size k, dword, stored-take b (length b) s.own m k h, ← add-one k)

    all-moves : (j k : ℕ) → k + j ≤ length m → moves Send.move j (midway k) ≡ midway (k + j)
    unfolding moves
    all-moves zero k h = ap midway (omega arith)
    all-moves (suc j) k h =
        ap (moves Send.move j) (one_more k (omega arith)) ∙ all-moves j (k + 1) (omega arith) ∙ ap midway (omega arith)

    publish-number : Send.publish_number (sending (length m)) d (midway (length m)).buf ≡ 0
    unfolding Send.publish_number sending
    publish-number =
        first-needs_ok (length m) _ _ (active (length m) (omega arith))
        ∙ tested (leb (length m) (length m)) 12 (le-leb (length m) (length m) (omega arith))

    published :
        Send.publish_after (midway (length m))
        ≡ record {
          code = 0;
          len = 0;
          next = idle_at s.n ((s.own + length m) % length b);
          desc = set d TAIL ((s.own + length m) % length b);
          buf = stored b (length b) s.own m;
          out = [];
        }
    unfolding Send.publish_by midway sending
    published = rw (publish-number, size (length m), take_all (length m) m (omega arith))

    whole-accepted : Send.after_look (length m) (Send.look_by 0 s m d b) ≡ send_outcome s (send_by 0 s.own m d b)
    unfolding Send.after_look Send.look_by send_by midway sending stored marked
    whole-accepted =
        let z : 0 + length m ≡ length m = omega arith in
        ap Send.publish_after (all-moves (length m) 0 (omega arith) ∙ ap midway z) ∙ published

whole-refused :
    (s : State) (m d b : List ℕ) (c : ℕ) → eqb c 0 ≡ false
    → Send.after_look (length m) (Send.look_by c s m d b) ≡ send_outcome s (send_by c s.own m d b)
unfolding Send.after_look Send.look_by send_by
whole-refused s m d b c t = rw t

-- 'A whole send .. equals its steps run one after another'
pub send-at-once :
    (s : State) (m d b : List ℕ) → Send.whole s m d b ≡ send_outcome s (whole_send (idle (length b) s) s.own m d b)
send-at-once s m d b =
    cases (eqb (Send.look_number s m d b) 0)
    (λ t.
    let e : Send.look_number s m d b ≡ 0 = eqb-true _ 0 t in
    let a = accepted (idle (length b) s) s.own m d (length b) e in
    rw e (whole-accepted s m d b a (idle_same (length b) s a.is_fit)))
    (λ t. whole-refused s m d b (Send.look_number s m d b) t)

-- what the code of a whole send at once says of the steps
pub send_method :
    (s : State) (m d b : List ℕ) (fits : Bool) (r : Result ℕ Refusal) (d' b' : List ℕ)
    → fits ≡ idle (length b) s → sent_end s.own r d' b' ≡ whole_send fits s.own m d b
    → Send.whole s m d b
    ≡ record {
      code = number_of r;
      len = 0;
      next = cond (eqb (number_of r) 0) (idle_at s.n (own_after s.own r)) s;
      desc = d';
      buf = b';
      out = [];
    }
unfolding send_by
send_method s m d b fits r d' b' f e =
    send-at-once s m d b ∙ ap (λ (t : Bool). send_outcome s (whole_send t s.own m d b)) (sym f)
    ∙ ap (send_outcome s) (sym e)
