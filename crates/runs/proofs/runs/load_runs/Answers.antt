-- `runs::load_runs` meets its contract: one straight run, or two. Assumes nothing.
use mathlib.Core.Path.{refl, ◌∙◌}
use native.Mathlib.Omega.{arith}
use lib.ListN.{length}
use Rattle.runs.proofs.TwoRuns.{read_alone, read_together}
use Rattle.runs.proofs.runs.load_runs.Goals as goal

pub returns-then-dst-room : goal.returns-then-dst-room
returns-then-dst-room c =
    let a = c.args in
    c.load_run.ensures ∙ read_alone a.buf.now a.at (length a.dst.now) (omega arith)

pub returns-else-dst-room : goal.returns-else-dst-room
returns-else-dst-room c =
    let first = c in
    let a = first.args in
    let second = c in
    read_together a.dst.now a.buf.now _ _ _ a.at
    second.load_run-else-dst-room-2.ensures refl first.load_run-else-dst-room.ensures refl (omega arith) (omega arith)
