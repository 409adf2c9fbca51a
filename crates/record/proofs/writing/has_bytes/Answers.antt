-- `writing::has_bytes` meets its contract: a dword takes five bytes at most. Assumes nothing.
use mathlib.Core.Path.{sym}
use native.Mathlib.Omega.{arith}
use lib.ListN.{length}
use borrow.Author.Tests.{le-leb}
use Rattle.record.specs.Numbers.{bytes_of_run}
use Rattle.record.proofs.Sizes.{run-bytes}
use Rattle.record.proofs.writing.has_bytes.Goals as goal

pub returns-then-run-room : goal.returns-then-run-room
returns-then-run-room c =
    let a = c.args in
    sym (le-leb (length (bytes_of_run a.run.now)) a.room (omega (arith, run-bytes a.run.now)))
