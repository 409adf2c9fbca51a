-- `numbers::first_needs` meets its contract: at each `return` the tests that led there say which number it is. Assumes
-- nothing.
use borrow.Author.Tests.{eq-eqb, ne_eqb, not-true, not-false}
use Rattle.ring.specs.Numbers.{need, first_needs}
use Rattle.ring.proofs.numbers.first_needs.Goals as goal

pub returns-then-descriptor-ne-DESCRIPTOR_DWORDS : goal.returns-then-descriptor-ne-DESCRIPTOR_DWORDS
unfolding need first_needs
returns-then-descriptor-ne-DESCRIPTOR_DWORDS c = simp (ne_eqb _ _ c.if-descriptor-ne-DESCRIPTOR_DWORDS.true)

pub returns-then-not-allowed : goal.returns-then-not-allowed
unfolding need first_needs
returns-then-not-allowed c =
    simp (eq-eqb _ _ c.if-descriptor-ne-DESCRIPTOR_DWORDS.false, ← c.allowed.ensures, not-true c.allowed.result c.if-not-allowed.true-raw)

pub returns-then-not-fits : goal.returns-then-not-fits
unfolding need first_needs
returns-then-not-fits c =
    simp (
      eq-eqb _ _ c.if-descriptor-ne-DESCRIPTOR_DWORDS.false,
      ← c.allowed.ensures,
      not-false c.allowed.result c.if-not-allowed.false-raw,
      not-true c.args.fits c.if-not-fits.true-raw,
    )

pub returns : goal.returns
unfolding need first_needs
returns c =
    simp (
      eq-eqb _ _ c.if-descriptor-ne-DESCRIPTOR_DWORDS.false,
      ← c.allowed.ensures,
      not-false c.allowed.result c.if-not-allowed.false-raw,
      not-false c.args.fits c.if-not-fits.false-raw,
    )
