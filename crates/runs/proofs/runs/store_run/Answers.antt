-- `runs::store_run` meets its contract: the places of a run are filled by its dwords. Assumes nothing.
use Prim.Native.Nat.{◌+◌, ◌-◌}
use mathlib.Core.Path.{◌∙◌}
use native.Mathlib.Omega.{arith}
use lib.ListN.{length, length-take, length-drop}
use Rattle.slices.proofs.Fits.{copied-all}
use Rattle.runs.proofs.TwoRuns.{put-run}
use Rattle.runs.proofs.runs.store_run.Goals as goal

pub returns : goal.returns
returns c =
    let a = c.args in
    let src = a.src.now in
    let e = c.copy.ensures ∙ copied-all src _ (simp (length-take, length-drop) (omega arith)) in
    rw e (put-run a.buf.now a.at (a.at + length src - a.at) src (omega arith))
