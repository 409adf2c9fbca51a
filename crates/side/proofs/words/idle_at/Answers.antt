-- `words::idle_at` meets its contract. Assumes nothing.
use Rattle.side.proofs.InWords.{rested}
use Rattle.side.proofs.words.idle_at.Goals as goal

pub returns : goal.returns
returns c =
    let start = c in
    let a = start.args in
    rw c.clear_copy.ensures (rested a.own a.w.now start.requires)
