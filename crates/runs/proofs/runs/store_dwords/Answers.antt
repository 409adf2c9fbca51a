-- `runs::store_dwords` meets its contract: dwords that fit are stored in their runs. Assumes nothing.
use mathlib.Core.Path.{refl, sym, ◌∙◌}
use native.Mathlib.Nat.{sub-zero}
use native.Mathlib.Omega.{arith}
use Rattle.runs.proofs.Straight.{stored_long, stored_outside}
use Rattle.runs.proofs.TwoRuns.{alone, stored-fit, stored_split}
use Rattle.runs.proofs.runs.store_dwords.Goals as goal

pub returns-then-buf-at : goal.returns-then-buf-at
returns-then-buf-at c = sym (stored_outside _ _ _ c.if-buf-at.true)

pub returns-then-buf-src : goal.returns-then-buf-src
returns-then-buf-src c = sym (stored_long _ _ _ c.if-buf-src.true)

-- all of them before the end of the buffer
pub returns-then-src-room : goal.returns-then-src-room
returns-then-src-room c =
    let stored = c in
    let a = stored.args in
    stored.store_run.ensures
    ∙ alone a.buf.now a.at a.src.now (omega arith)
    ∙ stored-fit a.buf.now a.at a.src.now (omega arith) (omega arith)

-- two runs
pub returns : goal.returns
returns c =
    let first = c in
    let fits = first in
    let a = fits.args in
    let e = rw sub-zero at first.store_run-2.ensures in
    stored_split a.buf.now a.src.now _ _ a.at c.store_run-3.ensures refl refl e (omega arith)
    ∙ stored-fit a.buf.now a.at a.src.now (omega arith) (omega arith)
