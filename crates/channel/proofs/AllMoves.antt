-- All the moves that are left, at once: what they give. The laws by which code that makes them in one call meets its
-- definition. Assumes nothing.
use Prim.Native.Nat.{ℕ, zero, suc, ◌+◌, ◌-◌, ◌%◌, ◌≤◌, ◌<◌}
use mathlib.Core.Path.{◌≡◌, refl, ap, ◌∙◌}
use mathlib.Core.Bool.{Bool, true}
use mathlib.Core.List.{List, [], ◌++◌, append_assoc}
use native.Mathlib.Omega.{arith}
use native.Mathlib.Numerals.{add-one}
use lib.ListN.{length, get_or, set, take, drop, take-append-drop, length-append, get_or-append, length-drop}
use lib.Seq.{drop-cons, get_or-drop, get_or-take, length-take-le, set_at}
use lib.Dec.{leb}
use borrow.Author.Tests.{le-leb, lt-ltb, ne_eqb}
use Rattle.ring.specs.Numbers.{first_needs, need}
use Rattle.ring.proofs.Chains.{entered, entered_fits, tested}
use Rattle.runs.specs.Buffer.{stored, window}
use Rattle.runs.proofs.Ring.{stored-length, stored-take, window-append, window-length}
use Rattle.channel.specs.State.{State, state, active_receive, active_send, header}
use Rattle.channel.specs.Outcome.{Outcome, refused}
use Rattle.channel.specs.Steps.{Move, all_moves_by, at_first, move_after, moves}
use Rattle.channel.specs.Send
use Rattle.channel.specs.Receive
use Rattle.channel.proofs.Going.{receive_active, receive-moved, send_active, send_long}

-- a call that is refused makes no move
pub all-refused :
    (move : Move) (s : State) (d b : List ℕ) (c x : ℕ) → c ≡ x → (c ≡ 0 → ⊥)
    → refused c s d b [] ≡ all_moves_by x move s d b
unfolding all_moves_by
all-refused move s d b c x e z = rw (← e, ne_eqb c 0 z)

-- moves that go a way, each a step further: from its start on, all that are left lead to its end
module _ (move : Move) (way : ℕ → Outcome) where
  in_turn :
      (j k l : ℕ) → ((i : ℕ) → i < l → move_after move (way i) ≡ way (i + 1)) → k + j ≤ l
      → moves move j (way k) ≡ way (k + j)
  unfolding moves
  in_turn zero k l f h = ap way (omega arith)
  in_turn (suc j) k l f h =
      ap (moves move j) (f k (omega arith)) ∙ in_turn j (k + 1) l f (omega arith) ∙ ap way (omega arith)

  to_the_end :
      (s : State) (d b : List ℕ) (c : ℕ) → c ≡ 0 → at_first s d b ≡ way 0
      → ((i : ℕ) → i < s.len - s.moved → move_after move (way i) ≡ way (i + 1))
      → all_moves_by c move s d b ≡ way (s.len - s.moved)
  unfolding all_moves_by
  to_the_end s d b c z e f =
      let k = s.len - s.moved in
      rw z (ap (moves move k) e ∙ in_turn k 0 k f (omega arith) ∙ ap way (omega arith))

-- what a call that goes on has, of a send and of a receive
module _ (s : State) (d b : List ℕ) where
  module _ (e : Send.go_on_number s d b ≡ 0) where
    send-fits : active_send (length b) s ≡ true
    unfolding Send.go_on_number
    send-fits = entered_fits _ _ _ _ 0 refl refl refl e

    pub send-two : 2 ≤ s.len
    send-two = send_long (length b) s send-fits

    send-within : s.moved ≤ s.len
    send-within = (send_active (length b) s send-fits).within

  module _ (e : Receive.go_on_number s d b ≡ 0) where
    receive-fits : active_receive (length b) s ≡ true
    unfolding Receive.go_on_number
    receive-fits = entered_fits _ _ _ _ 0 refl refl refl e

    receive-within : s.moved ≤ s.len
    receive-within = (receive_active (length b) s receive-fits).within

-- a step after one that was accepted, on a state that fits as well
again : (d n : ℕ) (fits t : Bool) (r q : ℕ) → first_needs d n fits r ≡ 0 → t ≡ true → q ≡ 0 → first_needs d n t q ≡ 0
unfolding first_needs need
again d n fits t r q e f z =
    let i = entered d n fits r 0 refl refl refl e in
    rw (i.sixteen, i.is_allowed, f, z)

module _ (s : State) (d b : List ℕ) where
  place : ℕ
  place = s.own + s.moved

  -- ---- a send

  -- a send after k stores more
  sending : ℕ → State
  sending k = state s.n s.own s.len (s.moved + k) s.copy

  sent : ℕ → Outcome
  sent k =
      record {
        code = 0;
        len = 0;
        next = sending k;
        desc = d;
        buf = stored b (length b) place (take k (drop s.moved s.copy));
        out = [];
      }

  module _ (e : Send.go_on_number s d b ≡ 0) (long : s.len ≤ length s.copy) where
    active_send_fact : (k : ℕ) → s.moved + k ≤ s.len → active_send (length b) (sending k) ≡ true
    unfolding active_send sending
    active_send_fact k h =
        let a = send-fits s d b e in
        let w : leb s.moved s.len ≡ true = le-leb s.moved s.len (omega arith) in
        rw (le-leb _ _ h) (rw w at a)

    send-number : (k : ℕ) → s.moved + k < s.len → Send.move_number (sending k) d (sent k).buf ≡ 0
    unfolding Send.move_number Send.go_on_number sent sending
    send-number k h =
        rw (stored-length b (length b) place (take k (drop s.moved s.copy)))
        (again _ _ _ _ _ _ e (active_send_fact k (omega arith)) (tested _ 12 (lt-ltb _ _ h)))

    sent_more : (k : ℕ) → k < s.len - s.moved → move_after Send.move (sent k) ≡ sent (k + 1)
    unfolding Send.move_by sent sending place
    sent_more k h =
        let m = drop s.moved s.copy in
        let l : k < length m = simp length-drop (omega arith) in
        let z = send-number k (omega arith) in
        let p : s.own + (s.moved + k) ≡ s.own + s.moved + k = omega arith in
        let q : s.moved + k + 1 ≡ s.moved + (k + 1) = omega arith in
        let dword = get_or-drop s.moved s.copy k 0 in
        rw (z, stored-length b (length b) place (take k m), p, q, ← dword, stored-take b (length b) place m k l, ← add-one k)

    -- all that is left of the copy lies in the buffer, and is counted
    pub all-sent :
        Send.move_all s d b
        ≡ record {
          code = 0;
          len = 0;
          next = state s.n s.own s.len s.len s.copy;
          desc = d;
          buf = stored b (length b) (s.own + s.moved) (take (s.len - s.moved) (drop s.moved s.copy));
          out = [];
        }
    unfolding sent sending place stored
    all-sent =
        let z : s.moved + 0 ≡ s.moved = omega arith in
        let l : s.moved + (s.len - s.moved) ≡ s.len = omega (arith, send-within s d b e) in
        to_the_end Send.move sent s d b (Send.go_on_number s d b) e (rw z) sent_more ∙ rw l

  -- ---- a receive

  -- the copy, and a receive, after k copies more
  copied : ℕ → List ℕ
  copied k = take s.moved s.copy ++ (window b (length b) place k ++ drop (s.moved + k) s.copy)

  taking : ℕ → State
  taking k = state s.n s.own s.len (s.moved + k) (copied k)

  taken : ℕ → Outcome
  taken k = record { code = 0; len = 0; next = taking k; desc = d; buf = b; out = [] }

  module _ (e : Receive.go_on_number s d b ≡ 0) (long : s.len ≤ length s.copy) where
    copied-header : (k : ℕ) → get_or (copied k) 0 0 ≡ header s
    unfolding copied
    copied-header k =
        let w = receive-within s d b e in
        let l : length (take s.moved s.copy) ≡ s.moved = length-take-le s.moved s.copy (omega (arith, w)) in
        let o = receive-moved (length b) s (receive-fits s d b e) in
        get_or-append (take s.moved s.copy) _ 0 0 (omega arith) ∙ get_or-take s.moved s.copy 0 0 o

    active_receive_fact : (k : ℕ) → s.moved + k ≤ s.len → active_receive (length b) (taking k) ≡ true
    unfolding active_receive taking
    active_receive_fact k h =
        let a = receive-fits s d b e in
        let o = receive-moved (length b) s a in
        let v : leb 1 s.moved ≡ true = le-leb 1 s.moved o in
        let w : leb s.moved s.len ≡ true = le-leb s.moved s.len (omega arith) in
        rw (copied-header k, le-leb 1 (s.moved + k) (omega arith), le-leb _ _ h) (rw (v, w) at a)

    receive-number : (k : ℕ) → s.moved + k < s.len → Receive.move_number (taking k) d b ≡ 0
    unfolding Receive.move_number Receive.go_on_number taking
    receive-number k h = again _ _ _ _ _ _ e (active_receive_fact k (omega arith)) (tested _ 12 (lt-ltb _ _ h))

    copied_more :
        (k : ℕ) → s.moved + k < s.len
        → set (copied k) (s.moved + k) (get_or b ((s.own + (s.moved + k)) % length b) 0) ≡ copied (k + 1)
    unfolding copied place window
    copied_more k h =
        let x = take s.moved s.copy in
        let y = window b (length b) place k in
        let v = get_or b ((s.own + (s.moved + k)) % length b) 0 in
        let z = drop (suc (s.moved + k)) s.copy in
        let lx = length-take-le s.moved s.copy (omega arith) in
        let ly = window-length b (length b) place k in
        let l : length (x ++ y) ≡ s.moved + k = simp length-append (omega (arith, lx, ly)) in
        let q : s.moved + (k + 1) ≡ suc (s.moved + k) = omega arith in
        let p : s.own + (s.moved + k) ≡ s.own + s.moved + k = omega arith in
        rw (
          drop-cons s.copy (s.moved + k) 0 (omega arith),
          ← append_assoc x y _,
          set_at (x ++ y) _ z v (s.moved + k) l,
          append_assoc,
          q,
          window-append,
          append_assoc,
          p,
        )

    taken_more : (k : ℕ) → k < s.len - s.moved → move_after Receive.move (taken k) ≡ taken (k + 1)
    unfolding Receive.move_by taken taking
    taken_more k h =
        let q : s.moved + k + 1 ≡ s.moved + (k + 1) = omega arith in
        rw (receive-number k (omega arith), copied_more k (omega arith), q)

    -- all that is left of the message lies in the copy, and is counted
    pub all-taken :
        Receive.move_all s d b
        ≡ record {
          code = 0;
          len = 0;
          next =
              state s.n s.own s.len s.len
              (take s.moved s.copy
              ++ (window b (length b) (s.own + s.moved) (s.len - s.moved) ++ drop s.len s.copy));
          desc = d;
          buf = b;
          out = [];
        }
    unfolding taken taking copied place window
    all-taken =
        let z : s.moved + 0 ≡ s.moved = omega arith in
        let l : s.moved + (s.len - s.moved) ≡ s.len = omega (arith, receive-within s d b e) in
        to_the_end Receive.move taken s d b (Receive.go_on_number s d b) e (rw (z, take-append-drop)) taken_more ∙ rw l
