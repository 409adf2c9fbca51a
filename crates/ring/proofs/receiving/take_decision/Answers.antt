-- `receiving::take_decision` meets its contract: 1, 2, 3 and 5 are judged first, and past them the descriptor and the
-- header decide. Assumes nothing.
use mathlib.Core.Path.{sym}
use borrow.Author.Rules.{rules}
use borrow.Author.Tests.{le-leb, lt-leb}
use Rattle.ring.specs.Numbers.{need, take_decision}
use Rattle.ring.proofs.Chains.{first-needs-none, first-needs-one}
use Rattle.ring.proofs.Taken.{refused-header}
use Rattle.ring.proofs.receiving.take_decision.Goals as goal

pub returns-in_err-first_needs : goal.returns-in_err-first_needs
unfolding take_decision
returns-in_err-first_needs c = search (rules, refused-header, first-needs-one)

pub returns-then-output-lt-MESSAGE_MAX : goal.returns-then-output-lt-MESSAGE_MAX
unfolding need take_decision
returns-then-output-lt-MESSAGE_MAX c = rw (first-needs-none _ _ _ _ (sym c.in_ok-first_needs.ensures), lt-leb _ _ c.if-output-lt-MESSAGE_MAX.true)

pub returns : goal.returns
unfolding need take_decision
returns c =
    rw (first-needs-none _ _ _ _ (sym c.in_ok-first_needs.ensures), le-leb _ _ c.if-output-lt-MESSAGE_MAX.false)
    c.pending_header.ensures
