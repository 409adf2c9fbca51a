-- `sending::send_decision` meets its contract: 1 to 4 are judged first, and past them the descriptor's words decide.
-- Assumes nothing.
use mathlib.Core.Path.{sym}
use borrow.Author.Rules.{rules}
use Rattle.ring.specs.Numbers.{need, send_decision}
use Rattle.ring.proofs.Chains.{first-needs-none, first-needs-one}
use Rattle.ring.proofs.sending.send_decision.Goals as goal

pub returns-in_err-first_needs : goal.returns-in_err-first_needs
unfolding send_decision
returns-in_err-first_needs c = search (rules, first-needs-one)

pub returns-then-not-starts_message : goal.returns-then-not-starts_message
unfolding send_decision need
returns-then-not-starts_message c =
    rw (first-needs-none _ _ _ _ (sym c.in_ok-first_needs.ensures), ← c.starts_message.ensures, c.if-not-starts_message.true)

pub returns : goal.returns
unfolding send_decision need
returns c =
    rw (first-needs-none _ _ _ _ (sym c.in_ok-first_needs.ensures), ← c.starts_message.ensures, c.if-not-starts_message.false)
    (simp (
      c.send_look_needs.ensures,
      c.wide-tail.ensures,
      c.dword_at-3.ensures,
      c.wide-head.ensures,
      c.dword_at-2.ensures,
      c.wide-status.ensures,
      c.dword_at.ensures,
    ))
