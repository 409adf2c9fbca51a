-- `huc::outer` meets its contract. Assumes nothing.
use borrow.Author.Tests.{eq-eqb, ne_eqb}
use Rattle.firmware.specs.Private.{outer}
use Rattle.firmware.proofs.huc.outer.Goals as goal

pub returns-then-l-eq0 : goal.returns-then-l-eq0
unfolding outer
returns-then-l-eq0 c = simp (eq-eqb _ _ c.if-l-eq0.true)

pub returns : goal.returns
unfolding outer
returns c = simp (ne_eqb _ _ c.if-l-eq0.false)
