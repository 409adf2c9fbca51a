-- The judgement of an image from the number of its bytes and its sizes alone. Assumes nothing.
use Prim.Native.Nat.{ℕ, suc, ◌+◌, ◌-◌, ◌*◌, ◌≤◌, ◌<◌}
use mathlib.Core.Path.{◌≡◌, refl, sym, ◌∙◌}
use mathlib.Core.Bool.{Bool, true, false, not, ◌&&◌, cond}
use mathlib.Core.List.{List}
use native.Mathlib.Omega.{arith}
use lib.ListN.{length}
use lib.Dec.{eqb, leb, ltb}
use borrow.Author.Tests.{eq-eqb, ne_eqb, lt-ltb, le-ltb, le-leb, leb-true, leb-false}
use Rattle.firmware.specs.Bytes.{Span, span, nowhere, located_at}
use Rattle.firmware.specs.Css
use Rattle.firmware.specs.Private.{rank}
use Rattle.firmware.specs.Bytes.{Location}
use Rattle.firmware.specs.declared.css.Sizes.{Sizes}
use Rattle.firmware.specs.declared.css.Component.{Component}
use Rattle.firmware.specs.declared.css.Component.TheVariants.{Ucode, Rsa, Modulus, Exponent}
use Rattle.firmware.proofs.Nowhere.{image-nowhere}

refused : (b : List ℕ) (which : Component) (k : ℕ) → Css.number b ≡ suc k → Css.located which b ≡ located_at (suc k) false nowhere
refused b which k e =
    let a : Css.is_image b ≡ false = ne_eqb (Css.number b) 0 (λ z. absurd (omega arith)) in
    image-nowhere b which a ∙ rw e

pub no_header : (b : List ℕ) (which : Component) → length b < 128 → Css.located which b ≡ located_at 15 false nowhere
unfolding Css.number
no_header b which l = refused b which 14 (simp (lt-ltb (length b) 128 l))

-- that there are fewer, and that there are not at least so many, are one test
fewer : (n m : ℕ) (t : Bool) → leb m n ≡ t → not t ≡ ltb n m
fewer n m true e = sym (le-ltb n m (leb-true m n e))
fewer n m false e = sym (lt-ltb n m (leb-false m n e))

-- the component of a rank
abbrev ranked : ℕ → Component
ranked r = cond (eqb r 0) Ucode (cond (eqb r 1) Rsa (cond (eqb r 2) Modulus Exponent))

pub of_rank : (which : Component) (r : ℕ) → rank which ≡ r → which ≡ ranked r
of_rank Ucode r e = rw (← e)
of_rank Rsa r e = rw (← e)
of_rank Modulus r e = rw (← e)
of_rank Exponent r e = rw (← e)

-- where the components start, as the code works it out
abbrev rsa : Sizes → ℕ
rsa z = 128 + 4 * (z.s - z.h)

abbrev modulus : Sizes → ℕ
modulus z = rsa z + 4 * z.k

abbrev exponent : Sizes → ℕ
exponent z = modulus z + 4 * z.m

-- what the code hands out for a component that needs so many bytes
abbrev handed : ℕ → Sizes → ℕ → Span → Location
handed n z needed p = located_at 0 (ltb n (4 * z.s)) (cond (leb needed n) p nowhere)

-- a blob of n bytes whose header says the sizes z
module _ (b : List ℕ) (n : ℕ) (z : Sizes) (l : length b ≡ n) (s : Css.sizes b ≡ z) (h : 128 ≤ n) where
  pub sizes_disagree : (which : Component) → Css.agree z ≡ false → Css.located which b ≡ located_at 16 false nowhere
  unfolding Css.number
  sizes_disagree which a = refused b which 15 (simp (l, s, le-ltb n 128 h, a))

  module _ (a : Css.agree z ≡ true) where
    pub too_short : (which : Component) → n < modulus z → Css.located which b ≡ located_at 17 false nowhere
    unfolding Css.number
    too_short which g = refused b which 16 (simp (l, s, le-ltb n 128 h, a, lt-ltb n (modulus z) g))

    module _ (g : modulus z ≤ n) where
      number : Css.number b ≡ 0
      unfolding Css.number
      number = simp (l, s, le-ltb n 128 h, a, le-ltb n (modulus z) g)

      shown :
          (which : Component) (needed : ℕ) (p : Span) → Css.shown which b ≡ leb needed n → Css.span_of which z ≡ p
          → Css.located which b ≡ handed n z needed p
      unfolding Css.truncated Css.part
      shown which needed p q e = simp (number, q, l, s, e, fewer n (4 * z.s) (leb (4 * z.s) n) refl)

      -- uCode and RSA are shown: whatever they need is there
      front-shown : (needed : ℕ) → needed ≤ n → Css.is_image b ≡ leb needed n
      front-shown needed f = eq-eqb (Css.number b) 0 number ∙ sym (le-leb needed n f)

      -- modulus and exponent need all of the image
      back-shown : (needed : ℕ) → needed ≡ 4 * z.s → (Css.is_image b && Css.all_there b) ≡ leb needed n
      back-shown needed f = simp (f, number, l, s)

      module _ (needed from to : ℕ) where
        pub ucode_handed : needed ≤ n → from ≡ 128 → to ≡ rsa z → Css.located Ucode b ≡ handed n z needed (span from to)
        unfolding Css.shown Css.span_of
        ucode_handed f g h = shown Ucode needed (span from to) (front-shown needed f) (rw (g, h))

        pub rsa_handed : needed ≤ n → from ≡ rsa z → to ≡ modulus z → Css.located Rsa b ≡ handed n z needed (span from to)
        unfolding Css.shown Css.span_of
        rsa_handed f g h = shown Rsa needed (span from to) (front-shown needed f) (rw (g, h))

        pub modulus_handed :
            needed ≡ 4 * z.s → from ≡ modulus z → to ≡ exponent z
            → Css.located Modulus b ≡ handed n z needed (span from to)
        unfolding Css.shown Css.span_of
        modulus_handed f g h = shown Modulus needed (span from to) (back-shown needed f) (rw (g, h))

        pub exponent_handed :
            needed ≡ 4 * z.s → from ≡ exponent z → to ≡ exponent z + 4 * z.e
            → Css.located Exponent b ≡ handed n z needed (span from to)
        unfolding Css.shown Css.span_of
        exponent_handed f g h = shown Exponent needed (span from to) (back-shown needed f) (rw (g, h))
