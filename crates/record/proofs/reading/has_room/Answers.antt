-- `reading::has_room` meets its contract: a file has no more dwords than bytes. Assumes nothing.
use mathlib.Core.Path.{sym}
use native.Mathlib.Omega.{arith}
use borrow.Author.Tests.{le-leb}
use Rattle.record.specs.Files.{whole_of}
use Rattle.record.proofs.BothWays.{one_each}
use Rattle.record.proofs.reading.has_room.Goals as goal

pub returns-then-file-room : goal.returns-then-file-room
returns-then-file-room c =
    let a = c.args in
    sym (le-leb (whole_of a.file.now) a.room (omega (arith, one_each a.file.now)))
