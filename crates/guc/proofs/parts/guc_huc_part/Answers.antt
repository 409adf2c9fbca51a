-- `parts::guc_huc_part` meets its contract. Assumes nothing.
use mathlib.Core.Option.{Option-elim}
use Rattle.guc.specs.Parts.{huc_part}
use Rattle.guc.proofs.parts.guc_huc_part.Goals as goal

pub returns-in-None : goal.returns-in-None
unfolding huc_part Option-elim
returns-in-None c = rw c.in-None.ensures c.refused.ensures

pub returns-in-Some : goal.returns-in-Some
unfolding huc_part Option-elim
returns-in-Some c = rw c.in-Some.ensures (rw c.huc_located.ensures at c.from.ensures)
