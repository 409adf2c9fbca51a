-- What the numbers of a receive say: where they accept, and the three answers of a whole receive at once. Assumes
-- nothing.
use Prim.Native.Nat.{ℕ, suc, ◌+◌, ◌-◌, ◌%◌, ◌≤◌, ◌<◌}
use mathlib.Core.Path.{◌≡◌, refl, sym, ap, ◌∙◌}
use mathlib.Core.Bool.{Bool, true, false, not, ◌||◌, cond}
use mathlib.Core.List.{List, ◌∷◌, ◌++◌}
use native.Mathlib.Omega.{arith}
use native.Mathlib.Nat.{mod-lt, mod-eq_of_lt}
use lib.ListN.{length, get_or, drop, set}
use lib.Dec.{eqb, leb}
use borrow.Author.Tests.{eqb-true, leb-true, not-true}
use Rattle.message.specs.Header.{total_length, well_formed}
use Rattle.ring.specs.AtOnce.{judged, judged_header, received_end, message_at, whole_receive, receive_by, receive_number}
use Rattle.ring.specs.Private.{TakenBy}
use Rattle.std.proofs.Common.{Ok, Err}
use Rattle.refusal.specs.declared.Refusal.{Refusal}
use Rattle.refusal.specs.declared.Refusal.TheVariants.{Malformed}
use Rattle.refusal.specs.Numbers.{number, number_of}
use Rattle.refusal.proofs.NotZero.{number-not-0}
use Rattle.refusal.proofs.Refused.{refuses}
use Rattle.ring.specs.declared.receiving.WholeReceive.{WholeReceive}
use Rattle.ring.specs.Numbers.{first_needs, look_needs, header_number, marked, need, receive_look_needs, take_decision}
use Rattle.ring.specs.Ring.{HEAD, allowed, head, status, tail, used}
use Rattle.runs.specs.Buffer.{window}
use Rattle.ring.proofs.Chains.{Entered, entered, entered_fits, entered_rest, passed, passed_rest, true_false}
use Rattle.message.proofs.Tests.{cases}
use Rattle.ring.proofs.LookNeeds.{look-needs-rest, look-needs_met}
use Rattle.runs.proofs.Ring.{window-at}

-- the number of a receive's look is never 13
chain_13 : (a b c d e : Bool) → eqb (need a 6 (need b 7 (need c 8 (need d 9 (need e 11 0))))) 13 ≡ false
unfolding need
chain_13 false b c d e = refl
chain_13 true false c d e = refl
chain_13 true true false d e = refl
chain_13 true true true false e = refl
chain_13 true true true true false = refl
chain_13 true true true true true = refl

pub look_not_13 : (n own st hd tl h : ℕ) → eqb (receive_look_needs n own st hd tl h) 13 ≡ false
unfolding receive_look_needs look_needs
look_not_13 n own st hd tl h = chain_13 _ _ _ _ _

-- what an accepted look of a receive has
pub record LookAccepted (n own hd tl h : ℕ) : Type 0 where
  pub own-head : own ≡ hd
  pub below : own < n
  pub whole : total_length h ≤ used n hd tl

module _ (n own st hd tl h : ℕ) (e : receive_look_needs n own st hd tl h ≡ 0) where
  u : ℕ
  u = used n hd tl

  after_8 : ℕ
  after_8 = need (eqb u 0 || leb (total_length h) u) 9 (need (not (eqb u 0)) 11 0)

  same_needs : look_needs n own hd st hd tl after_8 ≡ 0
  unfolding receive_look_needs after_8 u
  same_needs = e

  after : after_8 ≡ 0
  after = look-needs-rest n own hd st hd tl after_8 same_needs

  in_use : eqb u 0 ≡ false
  unfolding after_8
  in_use = not-true (eqb u 0) (passed (not (eqb u 0)) 11 0 0 refl (passed_rest (eqb u 0 || leb (total_length h) u) 9 _ 0 refl after))

  pub look-accepted : LookAccepted n own hd tl h
  unfolding u after_8
  look-accepted =
      let f = look-needs_met n own hd st hd tl after_8 same_needs in
      let l = passed (eqb (used n hd tl) 0 || leb (total_length h) (used n hd tl)) 9 _ 0 refl after in
      record {
        own-head = f.same;
        below = omega (arith, f.same, f.head);
        whole = leb-true (total_length h) (used n hd tl) (rw in_use at l);
      }

-- a refused look of a receive
pub refused-header : (r : Refusal) (c own : ℕ) (b : List ℕ) → number r ≡ c → judged (Err r) ≡ judged_header c own b
refused-header r c own b e = rw (← e, number-not-0 r)

-- L is from 1 to 256
pub total_low : (h : ℕ) → 1 ≤ total_length h
total_low h = omega arith

pub total_high : (h : ℕ) → total_length h ≤ 256
total_high h = omega arith

-- what 1 to 11 of a whole receive say where they accept
pub record Taken (fits : Bool) (own output : ℕ) (d : List ℕ) (n h : ℕ) : Type 0 where
  pub enters : Entered (length d) n
  pub is_fit : fits ≡ true
  pub output_long : 256 ≤ output
  pub below : own < n
  pub short : total_length h < n

module _ (fits : Bool) (own output : ℕ) (d : List ℕ) (n h : ℕ) where
  pub take_not_13 : eqb (take_decision fits own output d n h) 13 ≡ false
  unfolding take_decision first_needs need
  take_not_13 =
      cases (eqb (length d) 16)
      (λ a. cases (allowed n)
      (λ b. cases fits
      (λ c. cases (leb 256 output) (λ e. rw (a, b, c, e) (look_not_13 n own (status d) (head d) (tail d) h)) (λ e. rw (a, b, c, e)))
      (λ c. rw (a, b, c)))
      (λ b. rw (a, b)))
      (λ a. rw a)

  module _ (e : take_decision fits own output d n h ≡ 0) where
    rest₁ : ℕ
    rest₁ = need (leb 256 output) 5 (header_number own d n h)

    r₁ : rest₁ ≡ 0
    unfolding take_decision rest₁
    r₁ = entered_rest (length d) n fits rest₁ 0 refl refl refl e

    r₂ : header_number own d n h ≡ 0
    unfolding rest₁
    r₂ = passed_rest (leb 256 output) 5 (header_number own d n h) 0 refl r₁

    pub taken_has : Taken fits own output d n h
    unfolding take_decision rest₁ used
    taken_has =
        let g : Entered (length d) n = entered (length d) n fits rest₁ 0 refl refl refl e in
        let a = look-accepted n own (status d) (head d) (tail d) h r₂ in
        let u : (tail d + n - head d) % n < n = mod-lt (tail d + n - head d) (omega (arith, g.low)) in
        record {
          enters = g;
          is_fit = entered_fits (length d) n fits rest₁ 0 refl refl refl e;
          output_long = leb-true 256 output (passed (leb 256 output) 5 (header_number own d n h) 0 refl r₁);
          below = a.below;
          short = omega (arith, a.whole);
        }

-- a message of at least two dwords, taken apart
pub window-first-two :
    (b : List ℕ) (n own l : ℕ) → 2 ≤ l
    → window b n own l ≡ get_or b (own % n) 0 ∷ get_or b ((own + 1) % n) 0 ∷ window b n (own + 2) (l - 2)
unfolding window
window-first-two b n own l h =
    let e : l ≡ suc (suc (l - 2)) = omega arith in
    let f : suc own ≡ own + 1 = omega arith in
    let g : suc (suc own) ≡ own + 2 = omega arith in
    ap (window b n own) e ∙ ap (λ (x : ℕ). get_or b (own % n) 0 ∷ get_or b (x % n) 0 ∷ window b n (suc (suc own)) (l - 2)) f
    ∙ ap (λ (x : ℕ). get_or b (own % n) 0 ∷ get_or b ((own + 1) % n) 0 ∷ window b n x (l - 2)) g

-- the two dwords that were judged, and the others, are the message
pub laid-message :
    (b : List ℕ) (n own l h s : ℕ) (o : List ℕ) → own < n → 2 ≤ l → h ≡ get_or b own 0 → s ≡ get_or (window b n own l) 1 0
    → h ∷ s ∷ window b n (own + 2) (l - 2) ++ drop l o ≡ window b n own l ++ drop l o
laid-message b n own l h s o below l₂ eh es =
    let z : get_or b (own % n) 0 ≡ get_or b own 0 = ap (λ (x : ℕ). get_or b x 0) (mod-eq_of_lt below) in
    let t : s ≡ get_or b ((own + 1) % n) 0 = es ∙ window-at b n own l 1 (omega arith) in
    rw (window-first-two b n own l l₂, z, ← eh, ← t)

-- the three answers of a whole receive but for its end
module _ (fits : Bool) (own : ℕ) (o d b : List ℕ) where
  -- the number of its look
  abbrev decided : ℕ
  decided = take_decision fits own (length o) d (length b) (get_or b own 0)

  pub taken_refused :
      (r : Refusal) → decided ≡ number r → TakenBy (record { answer = Err r; own = own }) decided own b o o
  unfolding receive_number
  taken_refused r e =
      let z = number-not-0 r in
      let t : eqb (number r) 13 ≡ false = ap (λ (x : ℕ). eqb x 13) (sym e) ∙ take_not_13 fits own (length o) d (length b) (get_or b own 0) in
      record {
        code = rw (e, z);
        len = rw z;
        own-head = rw (z, t);
        small = λ q. absurd (refuses r (sym e ∙ q));
        output = rw z;
      }

  module _ (h s l : ℕ) (eh : h ≡ get_or b own 0) (el : l ≡ total_length h)
      (es : s ≡ get_or (window b (length b) own l) 1 0) (e : decided ≡ 0) where
    formed_same : well_formed (get_or b own 0) (get_or (message_at own b) 1 0) ≡ well_formed h s
    formed_same = rw (es, el, eh)

    length_same : l ≡ total_length (get_or b own 0)
    length_same = rw (el, eh)

    pub taken-formed :
        (x : ℕ) (after : List ℕ) → well_formed h s ≡ true → x ≡ (own + l) % length b → x < 16384
        → after ≡ window b (length b) own l ++ drop l o
        → TakenBy (record { answer = Ok l; own = x }) decided own b o after
    unfolding receive_number need
    taken-formed x after f p q w =
        record {
          code = rw (e, formed_same, f);
          len = length_same;
          own-head = rw (← length_same) p;
          small = λ _. q;
          output = rw (← length_same) w;
        }

    pub taken-malformed :
        (x : ℕ) → well_formed h s ≡ false → x ≡ (own + l) % length b → x < 16384
        → TakenBy (record { answer = Err Malformed; own = x }) decided own b o o
    unfolding receive_number need
    taken-malformed x f p q =
        record { code = rw (e, formed_same, f); len = refl; own-head = rw (← length_same) p; small = λ _. q; output = refl }

  -- 0 and 13 come after 1 to 11 have passed
  pub taken_zero : (c : ℕ) → c ≡ receive_number decided own b → (eqb c 0 || eqb c 13) ≡ true → decided ≡ 0
  unfolding receive_number
  taken_zero c e z =
      cases (eqb decided 0) (λ t. eqb-true decided 0 t)
      (λ t.
      let q : c ≡ decided = e ∙ rw t in
      let w : eqb decided 13 ≡ false = take_not_13 fits own (length o) d (length b) (get_or b own 0) in
      true_false (sym z ∙ rw (q, t, w)))

  -- and with its end, the whole receive at once
  pub whole-taken :
      (r : WholeReceive) (d' o' : List ℕ) → TakenBy r decided own b o o'
      → d' ≡ cond (eqb (number_of r.answer) 0 || eqb (number_of r.answer) 13) (set d HEAD r.own) (marked (number_of r.answer) d)
      → received_end r d' b o' ≡ whole_receive fits own o d b
  unfolding receive_by
  whole-taken r d' o' t g =
      cases (eqb (number_of r.answer) 0 || eqb (number_of r.answer) 13)
      (λ z. let p = rw z at t.own-head in rw (← t.code, z, t.len, t.output, rw z at g, p))
      (λ z. let p = rw z at t.own-head in rw (← t.code, z, t.len, t.output, rw z at g, p))
