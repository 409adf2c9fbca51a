-- `runs::lay` meets its contract: a message for which there is room fills the front of `dst`. Assumes nothing.
use mathlib.Core.Path.{◌∙◌}
use mathlib.Core.List.{◌∷◌}
use native.Mathlib.Omega.{arith}
use Rattle.runs.proofs.Straight.{laid_none}
use Rattle.runs.proofs.TwoRuns.{laid-run}
use Rattle.runs.proofs.runs.lay.Goals as goal

pub returns-then-dst-lt2 : goal.returns-then-dst-lt2
returns-then-dst-lt2 c =
    let a = c.args in
    laid_none a.dst.now (a.header ∷ a.word ∷ a.rest.now) (omega arith)

pub returns-then-dst-rest : goal.returns-then-dst-rest
returns-then-dst-rest c =
    let a = c.args in
    laid_none a.dst.now (a.header ∷ a.word ∷ a.rest.now) (omega arith)

pub returns : goal.returns
returns c =
    let stored = c in
    let a = stored.args in
    stored.store_judged.ensures ∙ laid-run a.dst.now (a.header ∷ a.word ∷ a.rest.now) (omega arith)
