-- `fresh` meets its contract: what it frees and begins is the wall made fresh. Assumes nothing.
use Rattle.wall.proofs.Freed.{freed-within, made_fresh_lem}
use Rattle.wall.proofs.fresh.Goals as goal

pub clear-requires : goal.clear-requires
clear-requires c = freed-within _ c.args.n _ c.freed.ensures

pub returns : goal.returns
returns c =
    made_fresh_lem c.args.t.now c.args.wall.now c.args.n _ _ c.begin.new.wall _ c.freed.ensures c.clear.ensures c.begin.ensures.0 c.begin.ensures.1
