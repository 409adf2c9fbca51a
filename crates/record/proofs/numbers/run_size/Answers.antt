-- `numbers::run_size` meets its contract: after some turns it has the bytes of the dwords so far. Assumes nothing.
use Prim.Native.Nat.{◌+◌}
use mathlib.Core.Path.{◌≡◌, refl, sym, ap, ◌∙◌}
use mathlib.Core.List.{flat_map}
use native.Mathlib.Omega.{arith}
use lib.ListN.{length, get_or, take, length-append}
use Rattle.record.specs.Numbers.{bytes_of, bytes_of_run}
use Rattle.record.proofs.Sizes.{number-bytes, bytes_more}
use Rattle.record.proofs.numbers.run_size.Goals as goal

pub loop-dword-init : goal.loop-dword-init
unfolding flat_map
loop-dword-init c = (omega arith, refl)

pub overflow_add-size : goal.overflow_add-size
overflow_add-size c =
    let l = c.loop-dword in
    let run = c.args.run.now in
    omega (arith, (number-bytes (get_or run l.dword-index 0)).1, c.number_size-size.ensures)

pub loop-dword-preserved : goal.loop-dword-preserved
loop-dword-preserved c =
    let l = c.loop-dword in
    let i = l.dword-index in
    let run = c.args.run.now in
    let n = c.number_size-size.ensures in
    let more : length (bytes_of_run (take (i + 1) run)) ≡ l.size + c.number_size-size.result =
    ap length (bytes_more run i (omega arith))
    ∙ length-append (bytes_of_run (take i run)) (bytes_of (get_or run i 0)) ∙ rw (n, l.invariant.1) in
    (omega (arith, (number-bytes (get_or run i 0)).1, n), sym more)
