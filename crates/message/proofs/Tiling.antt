-- Fields that lie side by side, from a bit down to bit 0: the one law by which a dword is taken apart into its fields
-- and put together again, for any such fields. Assumes nothing.
use Prim.Native.Nat.{ℕ, ◌+◌, ◌-◌, ◌*◌, ◌/◌, ◌%◌, ◌^◌, ◌<◌}
use mathlib.Core.Path.{◌≡◌, refl, sym, subst}
use mathlib.Core.Bool.{Bool, true, ◌&&◌}
use mathlib.Core.List.{List, [], ◌∷◌}
use native.Mathlib.Omega.{arith}
use native.Mathlib.Nat.{mod-lt, mod-one, add_assoc, mul_assoc, add-mul}
use lib.Dec.{eqb, leb, ltb}
use lib.Pow.{pow_pos, pow-add, mod-pow-add, high, low}
use lib.Arith.{digits_lt}
use borrow.Author.Tests.{eqb-true, leb-true, ltb-true, lt-ltb, eq-eqb}
use Rattle.message.specs.Fields.{Field, bits_of, weight, limit, field_of, FieldValue, fit, dword, holds}
use Rattle.message.proofs.Tests.{and_l, and_r, and_i}

-- the fields fill bits t - 1 to 0, each right below the one before
unfoldable pub tiles : ℕ → List FieldValue → Bool
tiles t [] = eqb t 0
tiles t (e ∷ es) = leb (bits_of e.0).low (bits_of e.0).high && (eqb t ((bits_of e.0).high + 1) && tiles (bits_of e.0).low es)

-- how many bits a field has
width : Field → ℕ
width f = (bits_of f).high + 1 - (bits_of f).low

-- what each test says of the first field, and of the rest
module _ (e : FieldValue) (es : List FieldValue) where
  pub holds-first : (w : ℕ) → holds (e ∷ es) w ≡ true → field_of e.0 w ≡ e.1
  unfolding holds
  holds-first w h = eqb-true (field_of e.0 w) e.1 (and_l (eqb (field_of e.0 w) e.1) (holds es w) h)

  pub holds-rest : (w : ℕ) → holds (e ∷ es) w ≡ true → holds es w ≡ true
  unfolding holds
  holds-rest w h = and_r (eqb (field_of e.0 w) e.1) (holds es w) h

  fit-first : fit (e ∷ es) ≡ true → e.1 < limit e.0
  unfolding fit
  fit-first f = ltb-true e.1 (limit e.0) (and_l (ltb e.1 (limit e.0)) (fit es) f)

  fit-rest : fit (e ∷ es) ≡ true → fit es ≡ true
  unfolding fit
  fit-rest f = and_r (ltb e.1 (limit e.0)) (fit es) f

  module _ (t : ℕ) (p : tiles t (e ∷ es) ≡ true) where
    below : Bool
    below = eqb t ((bits_of e.0).high + 1) && tiles (bits_of e.0).low es

    tiles_below : below ≡ true
    unfolding tiles below
    tiles_below = and_r (leb (bits_of e.0).low (bits_of e.0).high) below p

    tiles_first : t ≡ width e.0 + (bits_of e.0).low
    unfolding tiles below width
    tiles_first =
        let l = leb-true (bits_of e.0).low (bits_of e.0).high (and_l (leb (bits_of e.0).low (bits_of e.0).high) below p) in
        let top = (bits_of e.0).high + 1 in
        let h = eqb-true t top (and_l (eqb t top) (tiles (bits_of e.0).low es) tiles_below) in
        omega arith

    tiles_rest : tiles (bits_of e.0).low es ≡ true
    unfolding below
    tiles_rest = and_r (eqb t ((bits_of e.0).high + 1)) (tiles (bits_of e.0).low es) tiles_below

-- the numbers that a dword holds fit their fields
pub holds-fit : (es : List FieldValue) (w : ℕ) → holds es w ≡ true → fit es ≡ true
unfolding fit
holds-fit [] w h = refl
holds-fit (e ∷ es) w h =
    let b : field_of e.0 w < limit e.0 = mod-lt (w / weight e.0) (pow_pos ((bits_of e.0).high + 1 - (bits_of e.0).low)) in
    and_i (ltb e.1 (limit e.0)) (fit es)
    (lt-ltb e.1 (limit e.0) (subst (λ (x : ℕ). x < limit e.0) (holds-first e es w h) b))
    (holds-fit es w (holds-rest e es w h))

-- a dword made of numbers that fit is below 2 ^ t
pub dword_lt : (t : ℕ) (es : List FieldValue) → tiles t es ≡ true → fit es ≡ true → dword es < 2 ^ t
unfolding dword width
dword_lt t [] p f = pow_pos t
dword_lt t (e ∷ es) p f =
    rw (tiles_first e es t p, pow-add)
    (digits_lt (fit-first e es f) (dword_lt (bits_of e.0).low es (tiles_rest e es t p) (fit-rest e es f)))

-- a dword made of numbers that fit holds them, whatever stands above its fields
pub dword-holds :
    (t hi : ℕ) (es : List FieldValue) → tiles t es ≡ true → fit es ≡ true → holds es (hi * 2 ^ t + dword es) ≡ true
unfolding dword holds width
dword-holds t hi [] p f = refl
dword-holds t hi (e ∷ es) p f =
    let l : ℕ = (bits_of e.0).low in
    let v : ℕ = e.1 in
    let k : ℕ = width e.0 in
    let q : hi * 2 ^ t + (v * 2 ^ l + dword es) ≡ (hi * 2 ^ k + v) * 2 ^ l + dword es
    = rw (tiles_first e es t p, pow-add, add-mul, mul_assoc, add_assoc) in
    let r = tiles_rest e es t p in
    let g : field_of e.0 (hi * 2 ^ t + (v * 2 ^ l + dword es)) ≡ v
    = rw (q, high (hi * 2 ^ k + v) l (dword_lt l es r (fit-rest e es f))) (low hi k (fit-first e es f)) in
    and_i (eqb (field_of e.0 (hi * 2 ^ t + (v * 2 ^ l + dword es))) v) (holds es (hi * 2 ^ t + (v * 2 ^ l + dword es)))
    (eq-eqb (field_of e.0 (hi * 2 ^ t + (v * 2 ^ l + dword es))) v g)
    (rw q (dword-holds l (hi * 2 ^ k + v) es r (fit-rest e es f)))

-- a dword is made of the numbers that its fields hold
pub dword_again : (t w : ℕ) (es : List FieldValue) → tiles t es ≡ true → holds es w ≡ true → dword es ≡ w % 2 ^ t
unfolding dword tiles width
dword_again t w [] p h = rw (eqb-true t 0 p) (sym (mod-one w))
dword_again t w (e ∷ es) p h =
    rw (tiles_first e es t p, mod-pow-add w (width e.0) (bits_of e.0).low)
    (cc (holds-first e es w h, dword_again (bits_of e.0).low w es (tiles_rest e es t p) (holds-rest e es w h)))
