-- `messages::as_due` meets its contract: each test is one of what is due. Assumes nothing.
use Rattle.std.proofs.Common.{◌&&◌, ◌||◌, eqb, sym, ap, ◌∙◌}
use Rattle.message.proofs.Tests.{and_l, and_r}
use Rattle.stage.proofs.messages.as_due.Goals as goal

pub returns : goal.returns
returns c =
    let laid = c.laid_as_due-laid in
    let rest = c.rest_untouched-others in
    let total = c.total_length-length_due in
    let len = c.args.len in
    let lengths = eqb len 0 || eqb len total.result in
    let due = ap (λ n. eqb len 0 || eqb len n) total.ensures in
    let front = and_l (lengths && laid.result) rest.result in (
      (λ e.
          record {
            length = sym due ∙ and_l lengths laid.result (front e);
            laid = laid.ensures.0 (and_r lengths laid.result (front e));
            rest = rest.ensures.0 (and_r (lengths && laid.result) rest.result e);
          }),
      (λ d. simp (due, d.length, laid.ensures.1 d.laid, rest.ensures.1 d.rest)),
    )
