-- `state::step_needs` meets its contract: its tests are the chain's, in the same order. Assumes nothing.
use mathlib.Core.Path.{sym}
use borrow.Author.Rules.{rules}
use Rattle.ring.specs.Numbers.{need}
use Rattle.ring.proofs.Chains.{first-needs-none, first-needs-one}
use Rattle.channel.proofs.state.step_needs.Goals as goal

pub returns-in_err-first_needs : goal.returns-in_err-first_needs
returns-in_err-first_needs c = search (rules, first-needs-one)

pub returns-then-not-test : goal.returns-then-not-test
unfolding need
returns-then-not-test c = rw (first-needs-none _ _ _ _ (sym c.in_ok-first_needs.ensures), c.if-not-test.true)

pub returns : goal.returns
unfolding need
returns c = rw (first-needs-none _ _ _ _ (sym c.in_ok-first_needs.ensures), c.if-not-test.false)
