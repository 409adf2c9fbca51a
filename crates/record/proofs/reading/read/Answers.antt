-- `reading::read` meets its contract: 30 where it does not fit, else what was laid. Assumes nothing.
use mathlib.Core.Path.{sym, ◌∙◌}
use borrow.Author.Tests.{leb-true, leb-false}
use Rattle.record.proofs.Lays.{read_short, read_laid}
use Rattle.record.proofs.reading.read.Goals as goal

pub returns-then-not-has_room : goal.returns-then-not-has_room
returns-then-not-has_room c =
    let a = c.args in
    read_short a.file.now a.out.now
    (leb-false _ _ (sym c.has_room.ensures ∙ c.if-not-has_room.true))

pub returns : goal.returns
returns c =
    let e = c in
    let a = e.args in
    read_laid a.file.now a.out.now _ _
    (leb-true _ _ (sym e.has_room.ensures ∙ c.if-not-has_room.false)) c.lay.ensures
