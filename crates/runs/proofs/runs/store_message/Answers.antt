-- `runs::store_message` meets its contract: a message that fits is stored in its runs. Assumes nothing.
use mathlib.Core.Path.{sym, ◌∙◌}
use mathlib.Core.List.{◌∷◌}
use native.Mathlib.Omega.{arith}
use Rattle.runs.proofs.Straight.{stored_long, stored_outside}
use Rattle.runs.proofs.TwoRuns.{stored-fit}
use Rattle.runs.proofs.runs.store_message.Goals as goal

pub returns-then-n-at : goal.returns-then-n-at
returns-then-n-at c =
    let a = c.args in
    let p = c.past-tail.ensures in
    (sym (stored_outside a.buf.now a.at (a.header ∷ a.word ∷ a.rest.now) c.if-n-at.true), p.0, p.1)

pub returns-then-n-rest : goal.returns-then-n-rest
returns-then-n-rest c =
    let a = c.args in
    let p = c.past-tail.ensures in
    (sym (stored_long a.buf.now a.at (a.header ∷ a.word ∷ a.rest.now) (omega arith)), p.0, p.1)

pub returns : goal.returns
returns c =
    let went = c in
    let a = went.args in
    let p = went.past-tail.ensures in
    let m = a.header ∷ a.word ∷ a.rest.now in
    (c.store_runs.ensures ∙ stored-fit a.buf.now a.at m (omega arith) (omega arith), p.0, p.1)
