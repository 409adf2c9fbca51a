-- `numbers::look_needs` meets its contract: at each `return` the tests that led there say which number it is. Assumes
-- nothing.
use borrow.Author.Tests.{ne_eqb, lt-ltb, le-ltb}
use Rattle.ring.specs.Numbers.{need, look_needs}
use Rattle.ring.proofs.LookNeeds.{look-needs-none}
use Rattle.ring.proofs.numbers.look_needs.Goals as goal

pub returns-then-status-ne-STATUS_GOOD : goal.returns-then-status-ne-STATUS_GOOD
unfolding need look_needs
returns-then-status-ne-STATUS_GOOD c = simp (ne_eqb _ _ c.if-status-ne-STATUS_GOOD.true)

pub returns-then-n-head : goal.returns-then-n-head
unfolding need look_needs
returns-then-n-head c = simp (c.if-status-ne-STATUS_GOOD.false, le-ltb _ _ c.if-n-head.true)

pub returns-then-n-tail : goal.returns-then-n-tail
unfolding need look_needs
returns-then-n-tail c = simp (c.if-status-ne-STATUS_GOOD.false, lt-ltb _ _ c.if-n-head.false, le-ltb _ _ c.if-n-tail.true)

pub returns-then-own-word : goal.returns-then-own-word
unfolding need look_needs
returns-then-own-word c =
    let high = c in
    simp (high.if-status-ne-STATUS_GOOD.false, lt-ltb _ _ high.if-n-head.false, lt-ltb _ _ c.if-n-tail.false, ne_eqb _ _ c.if-own-word.true)

pub returns : goal.returns
returns c =
    let high = c in
    simp (look-needs-none _ _ _ _ _ _
    (record { good = high.if-status-ne-STATUS_GOOD.false; head = high.if-n-head.false; tail = c.if-n-tail.false; same = c.if-own-word.false }))
