-- `numbers::pending` meets its contract: past 6, 7 and 8 the offsets are below N, and what is in use decides. Assumes
-- nothing.
use mathlib.Core.Path.{sym}
use borrow.Author.Rules.{rules}
use borrow.Author.Tests.{eq-eqb, ne_eqb}
use Rattle.ring.specs.Numbers.{need}
use Rattle.ring.specs.Private.{pending_number}
use Rattle.ring.proofs.LookNeeds.{LookNeedsMet, look-needs_met, look-needs-none, look-needs-one}
use Rattle.ring.proofs.numbers.pending.Goals as goal
use Rattle.ring.proofs.numbers.pending.Goals.{In_ok-look_needs}

-- what is left past 6, 7 and 8
none : (c : In_ok-look_needs) → let a = c.args in LookNeedsMet a.n a.own a.head a.status a.head a.tail
none c = look-needs_met _ _ _ _ _ _ 0 (sym c.in_ok-look_needs.ensures)

pub returns-in_err-look_needs-clause-says : goal.returns-in_err-look_needs-clause-says
unfolding pending_number
returns-in_err-look_needs-clause-says c = search (rules, look-needs-one)

pub used-used-requires : goal.used-used-requires
used-used-requires c = ((none c).head, (none c).tail)

pub returns-then-used-eq0-clause-says : goal.returns-then-used-eq0-clause-says
unfolding need pending_number
returns-then-used-eq0-clause-says c = simp (look-needs-none _ _ _ _ _ _ (none (goal.at.returns-then-used-eq0-clause-says c).In_ok-look_needs), ← c.used-used.ensures, eq-eqb _ _ c.if-used-eq0.true)

pub returns-clause-says : goal.returns-clause-says
unfolding need pending_number
returns-clause-says c = simp (look-needs-none _ _ _ _ _ _ (none (goal.at.returns-clause-says c).In_ok-look_needs), ← c.used-used.ensures, ne_eqb _ _ c.if-used-eq0.false)
