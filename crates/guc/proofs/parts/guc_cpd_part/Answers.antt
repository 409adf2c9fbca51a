-- `parts::guc_cpd_part` meets its contract. Assumes nothing.
use Rattle.guc.specs.Parts.{cpd_part}
use Rattle.guc.proofs.parts.guc_cpd_part.Goals as goal

pub returns : goal.returns
unfolding cpd_part
returns c = rw c.cpd_located.ensures at c.from.ensures
