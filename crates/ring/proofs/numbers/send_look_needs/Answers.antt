-- `numbers::send_look_needs` meets its contract: past 6, 7 and 8 the offsets are below N, and the room decides. Assumes
-- nothing.
use mathlib.Core.Path.{sym}
use native.Mathlib.Omega.{arith}
use borrow.Author.Rules.{rules}
use borrow.Author.Tests.{le-leb, lt-leb}
use Rattle.ring.specs.Ring.{free}
use Rattle.ring.specs.Numbers.{need, send_look_needs}
use Rattle.ring.proofs.LookNeeds.{used_lt, LookNeedsMet, look-needs_met, look-needs-none, look-needs-one}
use Rattle.ring.proofs.numbers.send_look_needs.Goals as goal
use Rattle.ring.proofs.numbers.send_look_needs.Goals.{In_ok-look_needs}

-- what is left past 6, 7 and 8
none : (c : In_ok-look_needs) → let a = c.args in LookNeedsMet a.n a.own a.tail a.status a.head a.tail
none c = look-needs_met _ _ _ _ _ _ 0 (sym c.in_ok-look_needs.ensures)

pub returns-in_err-look_needs : goal.returns-in_err-look_needs
unfolding send_look_needs
returns-in_err-look_needs c = search (rules, look-needs-one)

pub overflow_sub-n : goal.overflow_sub-n
overflow_sub-n c = omega (arith, none (goal.at.overflow_sub-n c).In_ok-look_needs)

pub used-requires : goal.used-requires
used-requires c = ((none (goal.at.used-requires c).In_ok-look_needs).head, (none (goal.at.used-requires c).In_ok-look_needs).tail)

pub overflow_sub-n-2 : goal.overflow_sub-n-2
overflow_sub-n-2 c =
    let a = c.args in
    omega (arith, c.used.ensures, used_lt a.n a.head a.tail (none (goal.at.overflow_sub-n-2 c).In_ok-look_needs).head)

pub returns-then-n-used : goal.returns-then-n-used
unfolding need send_look_needs free
returns-then-n-used c = simp (look-needs-none _ _ _ _ _ _ (none (goal.at.returns-then-n-used c).In_ok-look_needs), ← c.used.ensures, lt-leb _ _ c.if-n-used.true)

pub returns : goal.returns
unfolding need send_look_needs free
returns c = simp (look-needs-none _ _ _ _ _ _ (none (goal.at.returns c).In_ok-look_needs), ← c.used.ensures, le-leb _ _ c.if-n-used.false)
