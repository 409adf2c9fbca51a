-- `runs::load_dwords` meets its contract: as many dwords as the buffer has are read in their runs. Assumes nothing.
use mathlib.Core.Path.{sym, ◌∙◌}
use native.Mathlib.Omega.{arith}
use lib.ListN.{length}
use Rattle.runs.proofs.Straight.{filled_long, filled_outside, filled_there}
use Rattle.runs.proofs.TwoRuns.{read_in_runs}
use Rattle.runs.proofs.runs.load_dwords.Goals as goal

pub returns-then-buf-at : goal.returns-then-buf-at
returns-then-buf-at c = sym (filled_outside _ _ _ c.if-buf-at.true)

pub returns-then-buf-dst : goal.returns-then-buf-dst
returns-then-buf-dst c = sym (filled_long _ _ _ c.if-buf-dst.true)

pub returns : goal.returns
returns c =
    let loaded = c in
    let a = loaded.args in
    let k = length a.dst.now in
    loaded.load_runs.ensures
    ∙ sym (read_in_runs a.buf.now a.at k (omega arith) (omega arith))
    ∙ sym (filled_there a.buf.now a.at a.dst.now (omega arith) (omega arith))
