-- `messages::packed` meets its contract: what packing answers is what the 256 dwords are made of. Assumes nothing.
use Rattle.std.proofs.Common.{◌∙◌}
use Rattle.channel.specs.State.{zeros}
use Rattle.stage.proofs.Laws.{packed_none, packed_some}
use Rattle.stage.proofs.messages.packed.Goals as goal

pub returns-in_default : goal.returns-in_default
returns-in_default c = c.no_copy-dwords.ensures ∙ packed_none _ _ c.pack.ensures _ c.in_default.is

pub returns-in-Ok : goal.returns-in-Ok
unfolding zeros
returns-in-Ok c =
    simp (c.put.ensures, c.count_up.ensures, c.no_copy-dwords.ensures)
    (packed_some _ _ c.pack.ensures _ _ c.in-Ok.is)
