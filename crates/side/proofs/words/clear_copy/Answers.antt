-- `words::clear_copy` meets its contract. Assumes nothing.
use Rattle.side.proofs.InWords.{cleared}
use Rattle.side.proofs.words.clear_copy.Goals as goal

pub returns : goal.returns
returns c =
    let start = c in
    rw (c.fill.ensures.after (λ y e. e)) (cleared start.args.w.now start.requires)
