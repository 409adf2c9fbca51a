-- `receiving::receive_decision` meets its contract: 1, 2 and 3 are judged first, and past them the descriptor and the
-- header decide. Assumes nothing.
use mathlib.Core.Path.{sym}
use borrow.Author.Rules.{rules}
use Rattle.ring.specs.Numbers.{receive_decision}
use Rattle.ring.proofs.Chains.{first-needs-none, first-needs-one}
use Rattle.ring.proofs.Taken.{refused-header}
use Rattle.ring.proofs.receiving.receive_decision.Goals as goal

pub returns-in_err-first_needs : goal.returns-in_err-first_needs
unfolding receive_decision
returns-in_err-first_needs c = search (rules, refused-header, first-needs-one)

pub returns : goal.returns
unfolding receive_decision
returns c = rw (first-needs-none _ _ _ _ (sym c.in_ok-first_needs.ensures)) c.pending_header.ensures
