-- `runs::store_judged` meets its contract: a dword by value, and behind it a run that another opens. Assumes nothing.
use mathlib.Core.Path.{◌∙◌}
use mathlib.Core.List.{◌∷◌}
use native.Mathlib.Omega.{arith}
use lib.ListN.{length-set}
use Rattle.runs.proofs.TwoRuns.{opened}
use Rattle.runs.proofs.runs.store_judged.Goals as goal

pub store_opened-requires : goal.store_opened-requires
store_opened-requires c = simp length-set (omega arith)

pub shape_of-buf : goal.shape_of-buf
shape_of-buf c =
    let a = c.args in
    c.store_opened.auto.buf ∙ length-set a.buf.now a.at a.header

pub returns : goal.returns
returns c =
    let a = c.args in
    c.store_opened.ensures ∙ opened a.buf.now a.at a.header (a.word ∷ a.rest.now) (omega arith)
