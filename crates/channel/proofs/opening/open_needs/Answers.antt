-- `opening::open_needs` meets its contract: its tests are the chain's, in the same order. Assumes nothing.
use borrow.Author.Tests.{eq-eqb, ne_eqb}
use Rattle.ring.specs.Numbers.{need}
use Rattle.channel.specs.Opening.{open_number}
use Rattle.channel.proofs.opening.open_needs.Goals as goal

pub returns-then-descriptor-ne-DESCRIPTOR_DWORDS : goal.returns-then-descriptor-ne-DESCRIPTOR_DWORDS
unfolding need open_number
returns-then-descriptor-ne-DESCRIPTOR_DWORDS c = rw (ne_eqb _ _ c.if-descriptor-ne-DESCRIPTOR_DWORDS.true)

pub returns-then-not-allowed : goal.returns-then-not-allowed
unfolding need open_number
returns-then-not-allowed c =
    rw (eq-eqb _ _ c.if-descriptor-ne-DESCRIPTOR_DWORDS.false, ← c.allowed.ensures, c.if-not-allowed.true)

pub returns : goal.returns
unfolding need open_number
returns c =
    rw (eq-eqb _ _ c.if-descriptor-ne-DESCRIPTOR_DWORDS.false, ← c.allowed.ensures, c.if-not-allowed.false)
