-- `messages::Head::judge` meets its contract: a test of the definition for each of the code. Assumes nothing.
use native.Mathlib.Omega.{arith}
use mathlib.Core.Path.{sym, ap, ◌∙◌}
use Rattle.record.specs.Faults.{figure}
use Rattle.record.specs.Runs.{wrong}
use Rattle.record.proofs.Judged.{wrong_first}
use Rattle.record.proofs.Judging.{by_direction, by_no_length, by_length, by_no_header, by_header, by_end, by_whole}
use Rattle.record.proofs.messages.Head.judge.Goals as goal

pub returns-in_err-try_from : goal.returns-in_err-try_from
returns-in_err-try_from c =
    let no = c.in_err-try_from.ensures in
    wrong_first _ _ c.from_residual.ensures.1
    ∙ (ap (λ f. wrong (figure f) 0) no.0 ∙ sym (by_direction _ _ _ _ no.1))

pub returns-then-count-le1 : goal.returns-then-count-le1
returns-then-count-le1 c = sym (by_no_length _ _ _ _ c.in_ok-try_from.ensures.1 c.if-count-le1.true)

pub returns-then-not-is_length : goal.returns-then-not-is_length
returns-then-not-is_length c =
    let no = sym c.is_length.ensures ∙ c.if-not-is_length.true in
    sym (by_length _ _ _ _ c.in_ok-try_from.ensures.1 (omega arith) no)

pub returns-then-count-le2 : goal.returns-then-count-le2
returns-then-count-le2 c =
    let length = sym c.is_length.ensures ∙ c.if-not-is_length.false in
    sym (by_no_header _ _ _ _ c.in_ok-try_from.ensures.1 (omega arith) length c.if-count-le2.true)

pub returns-then-total-self : goal.returns-then-total-self
returns-then-total-self c =
    let length = sym c.is_length.ensures ∙ c.if-not-is_length.false in
    sym (by_header _ _ _ _ c.in_ok-try_from.ensures.1 (omega arith) length (omega arith) (λ e. c.if-total-self.true (c.total_length-total.ensures ∙ e)))

pub returns-then-count-self : goal.returns-then-count-self
returns-then-count-self c =
    let length = sym c.is_length.ensures ∙ c.if-not-is_length.false in
    let same = sym c.total_length-total.ensures ∙ c.if-total-self.false in
    sym (by_end _ _ _ _ c.in_ok-try_from.ensures.1 (omega arith) length (omega arith) same (omega arith))

pub returns : goal.returns
returns c =
    let length = sym c.is_length.ensures ∙ c.if-not-is_length.false in
    let same = sym c.total_length-total.ensures ∙ c.if-total-self.false in
    sym (by_whole _ _ _ _ c.in_ok-try_from.ensures.1 (omega arith) length (omega arith) same (omega arith))
