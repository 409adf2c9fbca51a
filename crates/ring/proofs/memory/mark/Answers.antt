-- `memory::mark` meets its contract: the three tests are those of `marked`, in its order. Assumes nothing.
use borrow.Author.Tests.{ne_eqb}
use Rattle.ring.specs.Numbers.{marked}
use Rattle.ring.proofs.memory.mark.Goals as goal

pub returns-then-code-eq-OVERFLOW : goal.returns-then-code-eq-OVERFLOW
unfolding marked
returns-then-code-eq-OVERFLOW c = simp c.if-code-eq-OVERFLOW.true c.put.ensures

pub returns-then-code-eq-MISMATCH : goal.returns-then-code-eq-MISMATCH
unfolding marked
returns-then-code-eq-MISMATCH c = simp c.if-code-eq-MISMATCH.true c.put-then-code-eq-MISMATCH.ensures

pub returns-then-code-eq-UNDERFLOW : goal.returns-then-code-eq-UNDERFLOW
unfolding marked
returns-then-code-eq-UNDERFLOW c = simp c.if-code-eq-UNDERFLOW.true c.put-then-code-eq-UNDERFLOW.ensures

pub returns-else-code-eq-UNDERFLOW : goal.returns-else-code-eq-UNDERFLOW
unfolding marked
returns-else-code-eq-UNDERFLOW c = simp (ne_eqb _ _ c.if-code-eq-OVERFLOW.false, ne_eqb _ _ c.if-code-eq-MISMATCH.false, ne_eqb _ _ c.if-code-eq-UNDERFLOW.false)
