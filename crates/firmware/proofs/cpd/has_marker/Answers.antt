-- `cpd::has_marker` meets its contract. Assumes nothing.
use mathlib.Core.Path.{◌∙◌}
use Rattle.firmware.proofs.Names.{marker}
use Rattle.firmware.proofs.cpd.has_marker.Goals as goal

pub returns : goal.returns
returns c = c.starts_with.ensures.value ∙ marker c.args.blob.now
