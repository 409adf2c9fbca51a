-- CSS images agree with document 01. Assumes nothing.
use Prim.Native.Nat.{ℕ, ◌+◌, ◌-◌, ◌*◌, ◌≤◌, ◌<◌}
use mathlib.Core.Path.{◌≡◌, refl, ap, ◌∙◌}
use mathlib.Core.Logic.{◌↔◌}
use mathlib.Core.Bool.{Bool, true, false, not, ◌&&◌}
use mathlib.Core.List.{List}
use native.Mathlib.Omega.{arith}
use lib.ListN.{length}
use borrow.Author.Tests.{eq-eqb, eqb-true, ne_eqb, leb-false, le-leb, le-ltb, lt-leb, lt-ltb, not-true}
use denote.Ref.{Bor}
use Rattle.firmware.specs.Bytes.{PartOf, Span, nowhere, located_at}
use Rattle.firmware.specs.Css
use Rattle.firmware.specs.Version.{css_reading, reading}
use Rattle.firmware.specs.Bytes.{Location}
use Rattle.firmware.specs.declared.css.Component.{Component}
use Rattle.firmware.specs.declared.css.Component.TheVariants.{Ucode, Rsa, Modulus, Exponent}
use Rattle.firmware.proofs.Lies.{Accepted, css-accepted, css_lies, ends-at_4s, located-ends}
use Rattle.firmware.proofs.Nowhere.{image-nowhere}
use Rattle.firmware.proofs.Tests.{both}
use Rattle.agreement.specs.Images.{At, EmptyAtStart, ImageParts, Images, IsImage, VeryBytes, e, end_of, h, k, m, s}

-- a location that is nowhere
pub empty-at-start : (number : ℕ) (t : Bool) (l : Location) → l ≡ located_at number t nowhere → EmptyAtStart number l
empty-at-start number t l q = rw q (record { code = refl; at-start = refl; empty = refl })

-- what is handed back for a span is the located bytes, where they lie
pub very_bytes :
    (number : ℕ) (t : Bool) (p : Span) (blob part : Bor (List ℕ)) → PartOf blob p part
    → VeryBytes blob (located_at number t p) part
very_bytes number t p blob part x = record { bytes = x.same_bytes; block = x.same_block; start = x.same_start }

-- an image that is accepted
module _ (b : List ℕ) (z : Css.number b ≡ 0) where
  is_accepted : Css.is_image b ≡ true
  is_accepted = eq-eqb (Css.number b) 0 z

  facts : Accepted (length b) (Css.sizes b)
  facts = css-accepted b z

  -- a component where it lies, and one that is shown where the blob has all of the image
  abbrev WhereItLies : Component → Type 0
  WhereItLies which = Css.located which b ≡ located_at 0 (Css.truncated b) (Css.span_of which (Css.sizes b))

  abbrev InBack : Component → Type 0
  InBack which = Css.shown which b ≡ (Css.is_image b && Css.all_there b)

  -- a component that is shown, and one that is not
  located-shown : (which : Component) → Css.shown which b ≡ true → WhereItLies which
  unfolding Css.part
  located-shown which t = rw (z, t)

  located_unshown : (which : Component) → Css.shown which b ≡ false → Css.located which b ≡ located_at 0 (Css.truncated b) nowhere
  unfolding Css.part
  located_unshown which t = rw (z, t)

  front : (which : Component) → Css.shown which b ≡ Css.is_image b → WhereItLies which
  front which q = located-shown which (q ∙ is_accepted)

  shown-back : (which : Component) → InBack which → 4 * s b ≤ length b → Css.shown which b ≡ true
  unfolding Css.sizes
  shown-back which q l = q ∙ rw (is_accepted, le-leb (4 * s b) (length b) l)

  unshown_back : (which : Component) → InBack which → length b < 4 * s b → Css.shown which b ≡ false
  unfolding Css.sizes
  unshown_back which q l = q ∙ rw (is_accepted, lt-leb (4 * s b) (length b) l)

  at :
      (start len : ℕ) (t : Bool) (p : Span) (l : Location) → l ≡ located_at 0 t p → p.from ≡ start → p.to - p.from ≡ len
      → At start len l
  at start len t p l q f g = rw q (record { accepted = refl; starts = f; size = g })

  ucode-shown : WhereItLies Ucode
  unfolding Css.shown
  ucode-shown = front Ucode refl

  rsa-shown : WhereItLies Rsa
  unfolding Css.shown
  rsa-shown = front Rsa refl

  modulus-shown : 4 * s b ≤ length b → WhereItLies Modulus
  unfolding Css.shown
  modulus-shown l = located-shown Modulus (shown-back Modulus refl l)

  exponent-shown : 4 * s b ≤ length b → WhereItLies Exponent
  unfolding Css.shown
  exponent-shown l = located-shown Exponent (shown-back Exponent refl l)

  back_unshown : (which : Component) → InBack which → length b < 4 * s b → EmptyAtStart 0 (Css.located which b)
  back_unshown which q l = empty-at-start 0 (Css.truncated b) _ (located_unshown which (unshown_back which q l))

  -- the components, each behind the one before it
  ucode-at : At 128 (4 * (s b - h b)) (Css.located Ucode b)
  unfolding Css.span_of Css.sizes
  ucode-at = at _ _ _ _ _ ucode-shown refl (omega arith)

  rsa-at : At (end_of (Css.located Ucode b)) (4 * k b) (Css.located Rsa b)
  unfolding Css.span_of Css.sizes
  rsa-at = at _ _ _ _ _ rsa-shown (omega (arith, ucode-at.starts, ucode-at.size)) (omega arith)

  modulus-at : 4 * s b ≤ length b → At (end_of (Css.located Rsa b)) (4 * m b) (Css.located Modulus b)
  unfolding Css.span_of Css.sizes
  modulus-at l =
      at _ _ _ _ _ (modulus-shown l) (omega (arith, ucode-at.starts, ucode-at.size, rsa-at.starts, rsa-at.size)) (omega arith)

  exponent-at : 4 * s b ≤ length b → At (end_of (Css.located Modulus b)) (4 * e b) (Css.located Exponent b)
  unfolding Css.span_of Css.sizes
  exponent-at l =
      at _ _ _ _ _ (exponent-shown l)
      (omega (arith, ucode-at.starts, ucode-at.size, rsa-at.starts, rsa-at.size, (modulus-at l).starts, (modulus-at l).size))
      (omega arith)

  at_4s : 4 * s b ≤ length b → end_of (Css.located Exponent b) ≡ 4 * s b
  unfolding Css.span_of Css.sizes
  at_4s l = ap end_of (exponent-shown l) ∙ last
    where
      last : end_of (located_at 0 (Css.truncated b) (Css.span_of Exponent (Css.sizes b))) ≡ 4 * s b
      last = omega (arith, ends-at_4s b z)

  is_image_fact : IsImage b
  unfolding Css.sizes
  is_image_fact =
      record { has_header = facts.has_header; sum = facts.sum; has_rsa = facts.has_rsa; has_ucode = facts.above; there = facts.there }

  image-parts : ImageParts b
  unfolding Css.sizes Css.shown css_reading reading
  image-parts =
      record {
        ucode = ucode-at;
        rsa = rsa-at;
        modulus = modulus-at;
        exponent = exponent-at;
        ends-at_4s = at_4s;
        no_modulus = back_unshown Modulus refl;
        no_exponent = back_unshown Exponent refl;
        reading = rw is_accepted refl;
      }

-- the other way: what is an image is accepted
image_passes : (b : List ℕ) → IsImage b → Css.number b ≡ 0
unfolding Css.number Css.agree Css.sizes
image_passes b x =
    simp (
      le-ltb (length b) 128 x.has_header,
      eq-eqb (h b) (32 + k b + m b + e b) x.sum,
      le-leb 1 (k b) x.has_rsa,
      lt-ltb (h b) (s b) x.has_ucode,
      le-ltb (length b) (128 + 4 * (s b - h b) + 4 * k b) x.there,
    )

-- ---- every blob

says-truncated : (b : List ℕ) → (Css.truncated b ≡ true) ↔ ((Css.number b ≡ 0) × (length b < 4 * s b))
unfolding Css.truncated Css.sizes
says-truncated b = (
  (λ t.
      let p = both (Css.is_image b) (not (Css.all_there b)) t in
      (eqb-true (Css.number b) 0 p.0, leb-false (4 * s b) (length b) (not-true (Css.all_there b) p.1))),
  (λ p. rw (eq-eqb (Css.number b) 0 p.0, lt-leb (4 * s b) (length b) p.1)),
)

pub images : Images
unfolding css_reading reading
images =
    record {
      exactly = λ b. (is_image_fact b, image_passes b);
      parts = image-parts;
      truncated = λ which b. says-truncated b;
      same_number = λ which b. refl;
      same_answer = λ which b. (refl, refl);
      same_reading = λ b. refl;
      refused = λ which b z. empty-at-start (Css.number b) false _ (image-nowhere b which (ne_eqb (Css.number b) 0 z));
      no_version_fact = λ b z. rw (ne_eqb (Css.number b) 0 z);
      within = λ which b. located-ends (length b) (Css.part which b) (css_lies b which) (Css.number b) (Css.truncated b) refl;
      very_bytes = λ which blob part. very_bytes (Css.number blob.now) (Css.truncated blob.now) (Css.part which blob.now) blob part;
    }
