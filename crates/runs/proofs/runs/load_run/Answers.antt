-- `runs::load_run` meets its contract: the places of dst are filled by a run's dwords. Assumes nothing.
use Prim.Native.Nat.{◌+◌, ◌-◌}
use mathlib.Core.Path.{◌∙◌}
use native.Mathlib.Omega.{arith}
use lib.ListN.{length, length-take, length-drop}
use Rattle.slices.proofs.Fits.{copied-all}
use Rattle.runs.proofs.TwoRuns.{part-run}
use Rattle.runs.proofs.runs.load_run.Goals as goal

pub returns : goal.returns
returns c =
    let a = c.args in
    let k = length a.dst.now in
    c.copy.ensures ∙ copied-all _ _ (simp (length-take, length-drop) (omega arith)) ∙ part-run a.buf.now a.at (a.at + k - a.at) k (omega arith)
