-- `figures::cpd_figures` meets its contract. Assumes nothing.
use mathlib.Core.Path.{◌∙◌}
use Rattle.firmware.proofs.Measured.{table-figures}
use Rattle.firmware.proofs.figures.cpd_figures.Goals as goal

pub returns : goal.returns
returns c = c.of_table.ensures ∙ table-figures _ c.read_table.ensures
