-- `messages::Head::judge_added` meets its contract: too many dwords are no length. Assumes nothing.
use mathlib.Core.Path.{sym, ap, ◌∙◌}
use native.Mathlib.Omega.{arith}
use Rattle.record.specs.Faults.{figure}
use Rattle.record.proofs.Judged.{fault_same}
use Rattle.record.proofs.Judging.{by_direction, by_length, too_long_length}
use Rattle.record.proofs.messages.Head.judge_added.Goals as goal

pub returns-in_err-try_from : goal.returns-in_err-try_from
returns-in_err-try_from c =
    let no = c.in_err-try_from.ensures in
    fault_same _ _ c.from_residual.ensures.1
    ∙ (ap figure no.0 ∙ sym (ap (λ j. j.fault) (by_direction _ _ _ _ no.1)))

pub returns-then-self-gt-MESSAGE_MAX : goal.returns-then-self-gt-MESSAGE_MAX
returns-then-self-gt-MESSAGE_MAX c =
    sym (ap (λ j. j.fault) (by_length _ _ _ _ c.in_ok-try_from.ensures.1 (omega arith) (too_long_length _ c.if-self-gt-MESSAGE_MAX.true)))
