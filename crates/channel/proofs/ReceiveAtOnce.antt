-- A whole receive at once is its steps one after another: the law by which the code of a whole receive meets its
-- definition. Assumes nothing.
use Prim.Native.Nat.{ℕ, zero, suc, ◌+◌, ◌-◌, ◌%◌, ◌≤◌, ◌<◌}
use mathlib.Core.Path.{◌≡◌, refl, sym, ap, ◌∙◌, subst}
use mathlib.Core.Bool.{Bool, true, false, ◌||◌, cond}
use mathlib.Core.List.{List, [], ◌∷◌, ◌++◌}
use native.Mathlib.Omega.{arith}
use native.Mathlib.Nat.{mod-eq_of_lt}
use lib.ListN.{length, get_or, set, replicate}
use lib.Seq.{set_at, append_snoc, take_at}
use lib.Dec.{eqb, leb, ltb}
use borrow.Author.Tests.{eqb-true, le-leb, lt-ltb}
use Rattle.message.specs.Header.{total_length, well_formed}
use Rattle.ring.specs.AtOnce.{AtOnce, received_end, whole_receive, receive_by, receive_number}
use Rattle.ring.specs.Numbers.{first_needs, header_number, marked, need, receive_decision, take_decision}
use Rattle.channel.specs.Outcome.{Outcome}
use Rattle.ring.specs.Ring.{allowed, head, status, tail}
use Rattle.runs.specs.Buffer.{window}
use Rattle.channel.specs.State.{State, active_receive, header, idle, idle_at, second}
use Rattle.channel.specs.Steps.{moves, move_after}
use Rattle.channel.specs.Receive
use Rattle.ring.specs.declared.receiving.WholeReceive.{WholeReceive}
use Rattle.ring.proofs.Chains.{ok, tested}
use Rattle.message.proofs.Tests.{cases}
use Rattle.channel.proofs.Fits.{busy_active_receive, idle_same}
use Rattle.runs.proofs.Ring.{window-append, window-at, window-length}
use Rattle.ring.proofs.Taken.{look-accepted, look_not_13, total_high, total_low}

-- the outcome of a whole receive, with the state s before it
abbrev pub receive_outcome : State → AtOnce → Outcome
receive_outcome s x =
    record {
      code = x.code;
      len = x.len;
      next = cond (eqb x.code 0 || eqb x.code 13) (idle_at s.n x.own) s;
      desc = x.desc;
      buf = x.buf;
      out = x.out;
    }

-- zeros after a list change no place of it
padded : (xs : List ℕ) (k i : ℕ) → get_or (xs ++ replicate k 0) i 0 ≡ get_or xs i 0
padded [] zero i = refl
padded [] (suc k) zero = refl
padded [] (suc k) (suc i) = padded [] k i
padded (x ∷ xs) k zero = refl
padded (x ∷ xs) k (suc i) = padded xs k i

module _ (s : State) (d b : List ℕ) where
  h₀ : ℕ
  h₀ = get_or b s.own 0

  l₀ : ℕ
  l₀ = total_length h₀

  -- a receive after its look and all but one of k copies
  taking : ℕ → State
  taking k =
      record { n = s.n; own = s.own; len = l₀; moved = k; copy = window b (length b) s.own k ++ replicate (256 - k) 0 }

  midway : ℕ → Outcome
  midway k = record { code = 0; len = 0; next = taking k; desc = d; buf = b; out = [] }

  module _
      (sixteen : length d ≡ 16) (is_allowed : allowed (length b) ≡ true) (same : s.n ≡ length b) (below : s.own < length b)
    where
      -- the first dword copied is the header
      copied-header : (k : ℕ) → 1 ≤ k → get_or (taking k).copy 0 0 ≡ h₀
      unfolding taking h₀
      copied-header k l =
          let z : (s.own + 0) % length b ≡ s.own = ap (λ (x : ℕ). x % length b) (omega arith) ∙ mod-eq_of_lt below in
          padded (window b (length b) s.own k) (256 - k) 0 ∙ window-at b (length b) s.own k 0 (omega arith)
          ∙ ap (λ (x : ℕ). get_or b x 0) z

      active : (k : ℕ) → 1 ≤ k → k ≤ l₀ → active_receive (length b) (taking k) ≡ true
      unfolding taking l₀
      active k l h =
          let c = (taking k).copy in
          let agrees = ap total_length (sym (copied-header k l)) in
          subst (λ (x : ℕ). active_receive (length b) (record { n = x; own = s.own; len = l₀; moved = k; copy = c }) ≡ true)
          (sym same)
          (busy_active_receive (length b) s.own below l₀ k c (total_low h₀) (total_high h₀) l h agrees)

      first-needs_ok : (t : Bool) (r : ℕ) → t ≡ true → first_needs (length d) (length b) t r ≡ r
      unfolding first_needs need
      first-needs_ok t r e = rw (sixteen, is_allowed, e)

      move-number : (k : ℕ) → 1 ≤ k → k < l₀ → Receive.move_number (taking k) d b ≡ 0
      unfolding Receive.move_number taking
      move-number k l h = first-needs_ok _ _ (active k l (omega arith)) ∙ tested (ltb k l₀) 12 (lt-ltb k l₀ h)

      copy_more :
          (k : ℕ) → k < 256
          → set (window b (length b) s.own k ++ replicate (256 - k) 0) k (get_or b ((s.own + k) % length b) 0)
          ≡ window b (length b) s.own (k + 1) ++ replicate (256 - (k + 1)) 0
      unfolding window
      copy_more k h =
          let w : List ℕ = window b (length b) s.own k in
          let v : ℕ = get_or b ((s.own + k) % length b) 0 in
          let z : List ℕ = replicate (256 - (k + 1)) 0 in
          let e : 256 - k ≡ suc (256 - (k + 1)) = omega arith in
          ap (λ (x : ℕ). set (w ++ replicate x 0) k v) e ∙ set_at w 0 z v k (window-length b (length b) s.own k)
          ∙ sym (append_snoc w v z) ∙ ap (λ (l : List ℕ). l ++ z) (sym (window-append b (length b) s.own k 1))

      below_256 : (k : ℕ) → k < l₀ → k < 256
      unfolding l₀
      below_256 k h = omega (arith, total_high h₀)

      one_more : (k : ℕ) → 1 ≤ k → k < l₀ → move_after Receive.move (midway k) ≡ midway (k + 1)
      unfolding Receive.move_by midway taking
      one_more k l h = rw (move-number k l h, copy_more k (below_256 k h))

      all-moves : (j k : ℕ) → 1 ≤ k → k + j ≤ l₀ → moves Receive.move j (midway k) ≡ midway (k + j)
      unfolding moves
      all-moves zero k l h = ap midway (omega arith)
      all-moves (suc j) k l h =
          ap (moves Receive.move j) (one_more k l (omega arith)) ∙ all-moves j (k + 1) (omega arith) (omega arith)
          ∙ ap midway (omega arith)

      module _ (o : List ℕ) (long : leb 256 (length o) ≡ true) where
        formed : Bool
        formed = well_formed h₀ (get_or (window b (length b) s.own l₀) 1 0)

        copied-formed : well_formed (header (taking l₀)) (second (taking l₀)) ≡ formed
        unfolding taking formed
        copied-formed =
            let l : 1 ≤ l₀ = unfold l₀ in total_low h₀ in
            rw (copied-header l₀ l, padded (window b (length b) s.own l₀) (256 - l₀) 1)

        publish-number : Receive.publish_number (taking l₀) o d b ≡ need formed 13 0
        unfolding Receive.publish_number_of taking
        publish-number =
            let l : 1 ≤ l₀ = unfold l₀ in total_low h₀ in
            first-needs_ok _ _ (active l₀ l (omega arith)) ∙ ok 5 long ∙ ok 12 (le-leb l₀ l₀ (omega arith))
            ∙ ap (λ (t : Bool). need t 13 0) copied-formed

        -- what it comes to
        abbrev end : Outcome
        end = receive_outcome s (receive_by (need formed 13 0) s.own o d b)

        publish_by_fact : Receive.publish_by (need formed 13 0) (taking l₀) o d b ≡ end
        unfolding Receive.publish_by receive_by need taking l₀ h₀
        publish_by_fact =
            let w = window b (length b) s.own l₀ in
            cases formed
            (λ f. rw (f, take_at w (replicate (256 - l₀) 0) l₀ (window-length b (length b) s.own l₀)))
            (λ f. rw f)

        published : Receive.publish_after o (midway l₀) ≡ end
        unfolding midway
        published = ap (λ (c : ℕ). Receive.publish_by c (taking l₀) o d b) publish-number ∙ publish_by_fact

        -- a look that is accepted, and what follows it
        looked : Receive.look_by 0 s d b ≡ midway 1
        unfolding Receive.look_by midway taking marked window l₀ h₀
        looked =
            let z : s.own % length b ≡ s.own = mod-eq_of_lt below in
            rw z

        after_look : Receive.after_look o (midway 1) ≡ end
        unfolding Receive.after_look midway taking
        after_look =
            let l : 1 ≤ l₀ = unfold l₀ in total_low h₀ in
            let z : 1 + (l₀ - 1) ≡ l₀ = omega arith in
            ap (Receive.publish_after o) (all-moves (l₀ - 1) 1 (omega arith) (omega arith) ∙ ap midway z) ∙ published

        whole-accepted : Receive.after_look o (Receive.look_by 0 s d b) ≡ end
        whole-accepted = ap (Receive.after_look o) looked ∙ after_look

-- a look that is refused
look-refused :
    (s : State) (o d b : List ℕ) (c : ℕ) → eqb c 0 ≡ false → eqb c 13 ≡ false
    → Receive.after_look o (Receive.look_by c s d b) ≡ receive_outcome s (receive_by (receive_number c s.own b) s.own o d b)
unfolding Receive.after_look Receive.look_by receive_by receive_number
look-refused s o d b c z t = rw (z, z, t)

module _ (s : State) (o d b : List ℕ) where
  -- what the descriptor and the header say, and the number of a whole receive but for 13
  f : ℕ
  f = header_number s.own d (length b) (get_or b s.own 0)

  taken : ℕ
  taken = take_decision (idle (length b) s) s.own (length o) d (length b) (get_or b s.own 0)

  Same : Type 0
  Same = Receive.whole s o d b ≡ receive_outcome s (whole_receive (idle (length b) s) s.own o d b)

  by_1_to_5 :
      (c : ℕ) → Receive.whole_number s o d b ≡ c → taken ≡ c → eqb c 0 ≡ false → eqb c 13 ≡ false → marked c d ≡ d
      → Same
  unfolding Same taken Receive.whole_by receive_by receive_number
  by_1_to_5 c w k z t m = rw (w, k, z, z, t, m)

  by_look : Receive.whole_number s o d b ≡ 0 → taken ≡ f → Receive.look_number s d b ≡ f → eqb f 0 ≡ false → Same
  unfolding Same taken f Receive.whole_by
  by_look w k l z =
      let not-13 = look_not_13 (length b) s.own (status d) (head d) (tail d) (get_or b s.own 0) in
      rw (w, k, l) (look-refused s o d b f z not-13)

  by_all :
      length d ≡ 16 → allowed (length b) ≡ true → idle (length b) s ≡ true → leb 256 (length o) ≡ true
      → Receive.whole_number s o d b ≡ 0 → taken ≡ 0 → Receive.look_number s d b ≡ 0 → f ≡ 0 → Same
  unfolding Same taken f Receive.whole_by receive_number formed l₀ h₀
  by_all t₁ t₂ t₃ t₄ w k l z =
      let a = look-accepted (length b) s.own (status d) (head d) (tail d) (get_or b s.own 0) z in
      rw (w, k, l) (whole-accepted s d b t₁ t₂ (idle_same (length b) s t₃) a.below o t₄)

-- 'A whole .. receive that 1 to 5 don't refuse equals its steps run one after another'
pub receive-at-once :
    (s : State) (o d b : List ℕ)
    → Receive.whole s o d b ≡ receive_outcome s (whole_receive (idle (length b) s) s.own o d b)
unfolding Same taken f Receive.whole_number receive_decision take_decision first_needs need marked
receive-at-once s o d b =
    cases (eqb (length d) 16)
    (λ t₁. cases (allowed (length b))
    (λ t₂. cases (idle (length b) s)
    (λ t₃. cases (leb 256 (length o))
    (λ t₄. cases (eqb (f s o d b) 0)
    (λ z.
    let e : f s o d b ≡ 0 = eqb-true _ 0 z in
    let sixteen = eqb-true (length d) 16 t₁ in
    by_all s o d b sixteen t₂ t₃ t₄ (rw (t₁, t₂, t₃, t₄)) (rw (t₁, t₂, t₃, t₄) e) (rw (t₁, t₂, t₃) e) e)
    (λ z. by_look s o d b (rw (t₁, t₂, t₃, t₄)) (rw (t₁, t₂, t₃, t₄)) (rw (t₁, t₂, t₃)) z))
    (λ t₄. by_1_to_5 s o d b 5 (rw (t₁, t₂, t₃, t₄)) (rw (t₁, t₂, t₃, t₄)) refl refl refl))
    (λ t₃. by_1_to_5 s o d b 3 (rw (t₁, t₂, t₃)) (rw (t₁, t₂, t₃)) refl refl refl))
    (λ t₂. by_1_to_5 s o d b 2 (rw (t₁, t₂)) (rw (t₁, t₂)) refl refl refl))
    (λ t₁. by_1_to_5 s o d b 1 (rw t₁) (rw t₁) refl refl refl)

-- what the code of a whole receive at once says of the steps
pub receive_method :
    (s : State) (o d b : List ℕ) (fits : Bool) (r : WholeReceive) (d' o' : List ℕ)
    → fits ≡ idle (length b) s → received_end r d' b o' ≡ whole_receive fits s.own o d b
    → Receive.whole s o d b ≡ receive_outcome s (received_end r d' b o')
receive_method s o d b fits r d' o' f e =
    receive-at-once s o d b ∙ ap (λ (t : Bool). receive_outcome s (whole_receive t s.own o d b)) (sym f)
    ∙ ap (receive_outcome s) (sym e)
