-- `stage::age_of` meets its contract: the sign of the library's age picks the return, and an age is small enough for its
-- sign to be changed.
use Rattle.std.proofs.Common.{◌≡◌, ℕ, suc, ◌+◌, ◌-◌, ◌%◌, ◌<◌, Bool, true, false, cond, T, ltb, ℤ, pos, negsuc, ◌-ℤ◌, nat_abs, sym, refl, ap, ◌∙◌, subst, true≢false, arith, w32, Fits, SFits, to_z, of_z, ltb-false, ltb-true}
use lib.Signed.{mag, lt_z, non_neg}
use mir.ValLaws.{to_z-of_z, to_z_pos}
use Rattle.requests.specs.Fence.{signed, age}
use Rattle.stage.specs.Walls.{as_read}
use Rattle.stage.proofs.walls.age_of.Goals as goal

-- a number of 32 bits, stored and read
abbrev stored : ℤ → ℤ
stored z = to_z w32 (of_z w32 z)

-- ---- an age is from -32,768 to 32,767

small_by : (d : ℕ) → d < 65536 → (b : Bool) → ltb d 32768 ≡ b → mag (cond b (pos d) (negsuc (65535 - d))) < 32768
small_by d l true e = ltb-true d 32768 e
small_by d l false e = omega (arith, ltb-false d 32768 e)

age-small : (f n : ℕ) → mag (age f n) < 32768
unfolding age signed
age-small f n = small_by ((f + 65536 - n) % 65536) (omega arith) (ltb ((f + 65536 - n) % 65536) 32768) refl

stored-age : (f n : ℕ) (z : ℤ) → z ≡ age f n → stored z ≡ age f n
stored-age f n z e = ap stored e ∙ to_z-of_z w32 (age f n) (record { sfits = omega (arith, age-small f n) })

-- ---- what is shown of a number z for an age a: below 0, and not

abbrev Negated : ℤ → ℤ → Type 0
Negated z a =
    SFits w32 (pos 0 -ℤ z)
    × ((T (non_neg (stored (pos 0 -ℤ z))) × Fits w32 (nat_abs (stored (pos 0 -ℤ z))))
    × (record { older = true; by = nat_abs (stored (pos 0 -ℤ z)) } ≡ as_read a))

below : (a : ℤ) → mag a < 32768 → lt_z a (pos 0) ≡ true → Negated a a
unfolding as_read
below (pos n) m e = absurd (omega (arith, ltb-true n 0 e))
below (negsuc n) m e =
    let same : stored (pos (0 + suc n)) ≡ pos (n + 1) = to_z_pos w32 (0 + suc n) (omega (arith, m)) ∙ ap pos (omega arith) in (
      record { sfits = omega (arith, m) },
      (
        (
          subst (λ (z : ℤ). T (non_neg z)) (sym same) tt,
          subst (λ (z : ℤ). Fits w32 (nat_abs z)) (sym same) (record { fits = omega (arith, m) }),
        ),
        ap (λ (z : ℤ). record { older = true; by = nat_abs z }) same,
      ),
    )

abbrev Kept : ℤ → ℤ → Type 0
Kept z a = (T (non_neg z) × Fits w32 (nat_abs z)) × (record { older = false; by = nat_abs z } ≡ as_read a)

above : (a : ℤ) → mag a < 32768 → lt_z a (pos 0) ≡ false → Kept a a
unfolding as_read
above (pos n) m e = ((tt, record { fits = omega (arith, m) }), refl)
above (negsuc n) m e = absurd (true≢false e)

-- of the age that was answered, by the test that was made
module _ (f n : ℕ) (z : ℤ) (e : z ≡ age f n) where
  negated : lt_z (stored z) (pos 0) ≡ true → Negated (stored z) (age f n)
  negated t =
      let p : stored z ≡ age f n = stored-age f n z e in
      subst (λ (x : ℤ). Negated x (age f n)) (sym p)
      (below (age f n) (age-small f n) (subst (λ (x : ℤ). lt_z x (pos 0) ≡ true) p t))

  kept : lt_z (stored z) (pos 0) ≡ false → Kept (stored z) (age f n)
  kept t =
      let p : stored z ≡ age f n = stored-age f n z e in
      subst (λ (x : ℤ). Kept x (age f n)) (sym p)
      (above (age f n) (age-small f n) (subst (λ (x : ℤ). lt_z x (pos 0) ≡ false) p t))

pub overflow_sub-result : goal.overflow_sub-result
overflow_sub-result c = (negated _ _ _ c.age-a.ensures c.if-a-lt0.true).0

pub overflow_cast-result : goal.overflow_cast-result
overflow_cast-result c = (negated _ _ _ c.age-a.ensures c.if-a-lt0.true).1.0

pub returns-then-a-lt0 : goal.returns-then-a-lt0
returns-then-a-lt0 c = (negated _ _ _ c.age-a.ensures c.if-a-lt0.true).1.1

pub returns-else-a-lt0 : goal.returns-else-a-lt0
returns-else-a-lt0 c = (kept _ _ _ c.age-a.ensures c.if-a-lt0.false).1
