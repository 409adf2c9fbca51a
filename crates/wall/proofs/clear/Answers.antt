-- `clear` meets its contract: one record more is free after each turn. Assumes nothing.
use Rattle.std.proofs.Common.{arith}
use Rattle.wall.proofs.Records.{free-next}
use Rattle.wall.proofs.clear.Goals as goal

pub loop-freed-preserved : goal.loop-freed-preserved
loop-freed-preserved c =
    (omega arith, rw c.loop-freed.invariant.1 (free-next c.args.t.now c.loop-freed.freed (omega (arith, c.requires))))
