-- `words::dword_of_copy` meets its contract: the first two dwords are those words of the state. Assumes nothing.
use mathlib.Core.Path.{◌∙◌}
use Rattle.side.proofs.InWords.{copy_at}
use Rattle.side.proofs.words.dword_of_copy.Goals as goal

pub returns-then-k-eq0 : goal.returns-then-k-eq0
returns-then-k-eq0 c =
    let start = c in
    rw c.if-k-eq0.true (start.requires.0 ∙ copy_at 0 start.args.w.now)

pub returns-then-k-eq1 : goal.returns-then-k-eq1
returns-then-k-eq1 c =
    let start = c in
    rw c.if-k-eq1.true (start.requires.1 ∙ copy_at 1 start.args.w.now)

pub returns : goal.returns
returns c =
    let a = c.args in
    c.dword_at.ensures ∙ copy_at a.k a.w.now
