-- `runs::store_opened` meets its contract: a dword by value, and a run behind it. Assumes nothing.
use mathlib.Core.Path.{◌∙◌}
use native.Mathlib.Omega.{arith}
use lib.ListN.{length-set}
use Rattle.runs.proofs.TwoRuns.{opened}
use Rattle.runs.proofs.runs.store_opened.Goals as goal

pub store_run-requires : goal.store_run-requires
store_run-requires c = simp length-set (omega arith)

pub shape_of-buf : goal.shape_of-buf
shape_of-buf c =
    let a = c.args in
    c.store_run.auto.buf ∙ length-set a.buf.now a.at a.word

pub returns : goal.returns
returns c =
    let a = c.args in
    c.store_run.ensures ∙ opened a.buf.now a.at a.word a.rest.now (omega arith)
