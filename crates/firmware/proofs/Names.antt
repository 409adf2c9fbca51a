-- A name and its key, and the first eight bytes of a name compared as one number. Assumes nothing.
use Prim.Native.Nat.{ℕ, ◌+◌, ◌-◌, ◌*◌, ◌≤◌, ◌<◌, ◌^◌}
use mathlib.Core.Path.{◌≡◌, refl, sym, ap, ◌∙◌}
use mathlib.Core.Bool.{Bool, true, false, not, ◌&&◌, and-false}
use mathlib.Core.List.{List, [], ◌∷◌}
use native.Mathlib.Omega.{arith}
use lib.ListN.{length, get_or, take, length-take}
use Rattle.std.proofs.lemmas.List.{get_or-take}
use lib.Pointwise.{pointwise}
use lib.Dec.{eqb, leb}
use borrow.Author.Tests.{eq-eqb, eqb-true, ne_eqb, le-leb}
use Rattle.firmware.specs.Bytes.{dword_at}
use Rattle.firmware.specs.Cpd
use Rattle.firmware.specs.Private.{Keyed, front_at, walked}
use Rattle.firmware.proofs.Search.{all-each, all-holds, all_same, first_same}
use Rattle.firmware.proofs.Tests.{cases, true_false}

-- the marker by the bytes that a directory starts with
same : (x y : ℕ) → eqb x y ≡ eqb y x
same x y =
    cases (eqb y x)
    (λ t. eq-eqb x y (sym (eqb-true y x t)) ∙ sym t)
    (λ t. ne_eqb x y (λ e. true_false (sym (eq-eqb y x (sym e)) ∙ t)) ∙ sym t)

join : (p q r s : Bool) → (p && (q && (r && (s && true)))) ≡ (p && q && r && s)
join false q r s = refl
join true false r s = refl
join true true false s = refl
join true true true false = refl
join true true true true = refl

pub marker : (b : List ℕ) → pointwise eqb (0x24 ∷ 0x43 ∷ 0x50 ∷ 0x44 ∷ []) (take 4 b) ≡ Cpd.has_marker b
unfolding Cpd.has_marker
marker [] = refl
marker (x ∷ []) = simp and-false
marker (x ∷ y ∷ []) = simp and-false
marker (x ∷ y ∷ z ∷ []) = simp and-false
marker (x ∷ y ∷ z ∷ w ∷ b) = rw (same 0x24 x, same 0x43 y, same 0x50 z, same 0x44 w) (join (eqb x 0x24) (eqb y 0x43) (eqb z 0x50) (eqb w 0x44))

-- a name that may be sought, by its bytes
pub sought :
    (name : List ℕ) (t : Bool) → (t ≡ true → (k : ℕ) → k < length name → get_or name k 0 ≡ 0 → ⊥)
    → (((k : ℕ) → k < length name → get_or name k 0 ≡ 0 → ⊥) → t ≡ true) → 1 ≤ length name → length name ≤ 12
    → Cpd.is_name name ≡ t
unfolding Cpd.is_name
sought name t f g l m =
    let some : leb 1 (length name) ≡ true = le-leb 1 (length name) l in
    let few : leb (length name) 12 ≡ true = le-leb (length name) 12 m in
    cases (Cpd.all (Cpd.nonzero name) (length name))
    (λ a.
    let u : t ≡ true =
    g (λ k h e. true_false (sym (all-holds (Cpd.nonzero name) (length name) k h a) ∙ ap not (eq-eqb (get_or name k 0) 0 e))) in
    simp (some, few, a) (sym u))
    (λ a.
    cases t
    (λ u. true_false (sym (all-each (Cpd.nonzero name) (length name) (λ k h. ap not (ne_eqb (get_or name k 0) 0 (f u k h)))) ∙ a))
    (λ u. simp (some, few, a) (sym u)))

-- the same by the name's key, of which as many bytes are looked at as the name has
pub sought-key :
    (name key : List ℕ) (t : Bool) → Keyed name key → length key ≡ 12
    → (t ≡ true → (k : ℕ) → k < length (take (length name) key) → get_or (take (length name) key) k 0 ≡ 0 → ⊥)
    → (((k : ℕ) → k < length (take (length name) key) → get_or (take (length name) key) k 0 ≡ 0 → ⊥) → t ≡ true)
    → 1 ≤ length name → length name ≤ 12 → Cpd.is_name name ≡ t
sought-key name key t h e f g l m =
    let n : length (take (length name) key) ≡ length name = simp length-take (omega arith) in
    let at : (k : ℕ) → k < length name → get_or (take (length name) key) k 0 ≡ get_or name k 0 =
    λ k i. get_or-take (length name) key k 0 i ∙ h k (omega arith) in
    sought name t (λ u k i z. f u k (omega arith) (at k i ∙ z))
    (λ each. g (λ k i z. each k (omega arith) (sym (at k (omega arith)) ∙ z))) l m

-- an entry agrees with a key exactly as it agrees with its name, and a walk for a key is the walk for its name
pub keyed_agrees : (b name key : List ℕ) (at : ℕ) → Keyed name key → Cpd.agrees b key at ≡ Cpd.agrees b name at
keyed_agrees b name key at h = all_same _ _ 12 (λ j l. ap (eqb (get_or b (at + j) 0)) (h j l))

pub keyed_walked :
    (b name key : List ℕ) (start count from : ℕ) → Keyed name key
    → walked b key start count from ≡ walked b name start count from
unfolding walked
keyed_walked b name key start count from h =
    first_same _ _ from (count - from) (λ i. keyed_agrees b name key (start + 24 * i) h)

-- bytes that agree one after another are one number
module _ (b key : List ℕ) (at : ℕ) where
  byte_same : (j : ℕ) → j < 12 → Cpd.agrees b key at ≡ true → get_or b (at + j) 0 ≡ get_or key j 0
  byte_same j l e = eqb-true (get_or b (at + j) 0) (get_or key j 0) (all-holds (λ k. eqb (get_or b (at + k) 0) (get_or key k 0)) 12 j l e)

  front_same : Cpd.agrees b key at ≡ true → front_at b at ≡ front_at key 0
  unfolding front_at dword_at
  front_same e =
      let z : at + 0 ≡ at = omega arith in
      let first : get_or b at 0 ≡ get_or key 0 0 = rw z at (byte_same 0 (omega arith) e) in
      let next : (j k : ℕ) → at + 4 + j ≡ at + k → k < 12 → get_or b (at + 4 + j) 0 ≡ get_or key k 0 =
      λ j k q l. rw q (byte_same k l e) in
      rw (
        first,
        byte_same 1 (omega arith) e,
        byte_same 2 (omega arith) e,
        byte_same 3 (omega arith) e,
        byte_same 4 (omega arith) e,
        next 1 5 (omega arith) (omega arith),
        next 2 6 (omega arith) (omega arith),
        next 3 7 (omega arith) (omega arith),
      )

  by_test : (t : Bool) → Cpd.agrees b key at ≡ t → (front_at b at ≡ front_at key 0 → ⊥) → Cpd.agrees b key at ≡ false
  by_test true e h = absurd (h (front_same e))
  by_test false e h = e

  pub front_differs : (front_at b at ≡ front_at key 0 → ⊥) → Cpd.agrees b key at ≡ false
  front_differs = by_test (Cpd.agrees b key at) refl

-- bytes of equal dwords agree, and dwords of equal fronts
abbrev number : ℕ → ℕ → ℕ → ℕ → ℕ
number a b c d = a + 0x100 * b + 0x10000 * c + 0x1000000 * d

number_small : (a b c d : ℕ) → a < 256 → b < 256 → c < 256 → d < 256 → number a b c d < 2 ^ 32
number_small a b c d ha hb hc hd = omega arith

two : (l h m i : ℕ) → l < 2 ^ 32 → m < 2 ^ 32 → l + 2 ^ 32 * h ≡ m + 2 ^ 32 * i → (l ≡ m) × (h ≡ i)
two l h m i hl hm e = (omega arith, omega arith)

module _ (a b c d w x y z : ℕ) (ha : a < 256) (hb : b < 256) (hc : c < 256) (hd : d < 256) where
  module _ (hw : w < 256) (hx : x < 256) (hy : y < 256) (hz : z < 256) (e : number a b c d ≡ number w x y z) where
    four : (a ≡ w) × (b ≡ x) × (c ≡ y) × (d ≡ z)
    four = (omega arith, omega arith, omega arith, omega arith)

module _ (b key : List ℕ) (at : ℕ) (hb : (j : ℕ) → get_or b j 0 < 256) (hk : (j : ℕ) → get_or key j 0 < 256) where
  pub front-agrees : front_at b at ≡ front_at key 0 → Cpd.all (λ j. eqb (get_or b (at + j) 0) (get_or key j 0)) 8 ≡ true
  unfolding front_at dword_at Cpd.all
  front-agrees e =
      let z : at + 0 ≡ at = omega arith in
      let z₅ : at + 4 + 1 ≡ at + 5 = omega arith in
      let z₆ : at + 4 + 2 ≡ at + 6 = omega arith in
      let z₇ : at + 4 + 3 ≡ at + 7 = omega arith in
      let small : number (get_or b at 0) (get_or b (at + 1) 0) (get_or b (at + 2) 0) (get_or b (at + 3) 0) < 2 ^ 32 =
      number_small _ _ _ _ (hb at) (hb (at + 1)) (hb (at + 2)) (hb (at + 3)) in
      let small-key : number (get_or key 0 0) (get_or key 1 0) (get_or key 2 0) (get_or key 3 0) < 2 ^ 32 =
      number_small _ _ _ _ (hk 0) (hk 1) (hk 2) (hk 3) in
      let halves = two _ _ _ _ small small-key e in
      let f = four _ _ _ _ _ _ _ _ (hb at) (hb (at + 1)) (hb (at + 2)) (hb (at + 3)) (hk 0) (hk 1) (hk 2) (hk 3) halves.0 in
      let g =
      four _ _ _ _ _ _ _ _ (hb (at + 4)) (hb (at + 4 + 1)) (hb (at + 4 + 2)) (hb (at + 4 + 3)) (hk 4) (hk 5) (hk 6)
      (hk 7) halves.1 in
      simp (
        z,
        ← z₅,
        ← z₆,
        ← z₇,
        eq-eqb (get_or b at 0) (get_or key 0 0) f.0,
        eq-eqb (get_or b (at + 1) 0) (get_or key 1 0) f.1,
        eq-eqb (get_or b (at + 2) 0) (get_or key 2 0) f.2,
        eq-eqb (get_or b (at + 3) 0) (get_or key 3 0) f.3,
        eq-eqb (get_or b (at + 4) 0) (get_or key 4 0) g.0,
        eq-eqb (get_or b (at + 4 + 1) 0) (get_or key 5 0) g.1,
        eq-eqb (get_or b (at + 4 + 2) 0) (get_or key 6 0) g.2,
        eq-eqb (get_or b (at + 4 + 3) 0) (get_or key 7 0) g.3,
      )

-- twelve bytes agree exactly where the front and the dword behind it do
module _ (b key : List ℕ) (at : ℕ) (hb : (j : ℕ) → get_or b j 0 < 256) (hk : (j : ℕ) → get_or key j 0 < 256) where
  pub all-agree :
      front_at b at ≡ front_at key 0 → dword_at b (at + 8) ≡ dword_at key 8 → Cpd.agrees b key at ≡ true
  unfolding dword_at Cpd.all
  all-agree e d =
      let f = front-agrees b key at hb hk e in
      let z₉ : at + 8 + 1 ≡ at + 9 = omega arith in
      let z₁₀ : at + 8 + 2 ≡ at + 10 = omega arith in
      let z₁₁ : at + 8 + 3 ≡ at + 11 = omega arith in
      let g =
      four _ _ _ _ _ _ _ _ (hb (at + 8)) (hb (at + 8 + 1)) (hb (at + 8 + 2)) (hb (at + 8 + 3)) (hk 8) (hk 9) (hk 10)
      (hk 11) d in
      simp (
        f,
        ← z₉,
        ← z₁₀,
        ← z₁₁,
        eq-eqb (get_or b (at + 8) 0) (get_or key 8 0) g.0,
        eq-eqb (get_or b (at + 8 + 1) 0) (get_or key 9 0) g.1,
        eq-eqb (get_or b (at + 8 + 2) 0) (get_or key 10 0) g.2,
        eq-eqb (get_or b (at + 8 + 3) 0) (get_or key 11 0) g.3,
      )

  back_same : Cpd.agrees b key at ≡ true → dword_at b (at + 8) ≡ dword_at key 8
  unfolding dword_at
  back_same e =
      let next : (j k : ℕ) → at + 8 + j ≡ at + k → k < 12 → get_or b (at + 8 + j) 0 ≡ get_or key k 0 =
      λ j k q l. rw q (byte_same b key at k l e) in
      rw (
        byte_same b key at 8 (omega arith) e,
        next 1 9 (omega arith) (omega arith),
        next 2 10 (omega arith) (omega arith),
        next 3 11 (omega arith) (omega arith),
      )

  pub back-tells :
      front_at b at ≡ front_at key 0 → (x y : ℕ) → x ≡ dword_at b (at + 8) → y ≡ dword_at key 8
      → eqb x y ≡ Cpd.agrees b key at
  back-tells e x y p q =
      cases (Cpd.agrees b key at)
      (λ t. eq-eqb x y (p ∙ back_same t ∙ sym q) ∙ sym t)
      (λ t. ne_eqb x y (λ d. true_false (sym (all-agree e (sym p ∙ d ∙ q)) ∙ t)) ∙ sym t)

  pub front-tells :
      (front_at b at ≡ front_at key 0 → ⊥) → (x y : ℕ) → x ≡ front_at b at → y ≡ front_at key 0
      → eqb x y ≡ Cpd.agrees b key at
  front-tells h x y p q = ne_eqb x y (λ d. h (sym p ∙ d ∙ q)) ∙ sym (front_differs b key at h)
