-- `writing::write` meets its contract: what is judged and measured to fit is written whole. Assumes nothing.
use Prim.Native.Nat.{ℕ}
use mathlib.Core.Path.{◌≡◌, sym, ap, ◌∙◌}
use mathlib.Core.List.{List}
use lib.ListN.{take}
use lib.Seq.{take-length}
use Rattle.record.specs.Numbers.{bytes_of_run}
use Rattle.record.specs.Calls.{at_front, of_written}
use Rattle.record.proofs.Figures.{figure-not-0}
use Rattle.record.proofs.Writes.{write_bad, write_full, write_done}
use Rattle.record.proofs.writing.write.Goals as goal

pub returns-in-Err : goal.returns-in-Err
returns-in-Err c =
    let e = c.in-Err.ensures in
    rw (← e.0, ← e.1) (write_bad c.args.run.now c.args.out.now (λ z. figure-not-0 c.in-Err.wrong.fault (sym e.0 ∙ z)))

pub returns-then-out-size : goal.returns-then-out-size
returns-then-out-size c =
    let m = c.in-Ok.ensures in
    write_full c.args.run.now c.args.out.now m.0 (rw m.1 at c.if-out-size.true)

pub returns-else-out-size : goal.returns-else-out-size
returns-else-out-size c =
    let run = c.args.run.now in
    let out = c.args.out.now in
    let m = c.in-Ok.ensures in
    let p = c.put_messages.ensures in
    let room = rw m.1 at c.if-out-size.false in
    let all = p.all m.0 room in
    let done = write_done run out m.0 room in
    let whole : take p.dwords run ≡ run = ap (λ k. take k run) all.0 ∙ take-length run in (
      ap of_written all.1 ∙ done.0,
      p.front ∙ (ap (λ (r : List ℕ). at_front (bytes_of_run r) out) whole ∙ done.1),
    )
