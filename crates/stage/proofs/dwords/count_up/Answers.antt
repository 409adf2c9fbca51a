-- `dwords::count_up` meets its contract: after i turns the first i dwords are counted, and the next is the one to come.
-- Assumes nothing.
use Rattle.std.proofs.Common.{◌≡◌, suc, ◌+◌, ◌-◌, [], length, take, drop, ap, ◌∙◌, append-nil, arith, drop_of_length-le, take_all}
use Rattle.stage.specs.Dwords.{counting}
use Rattle.message.proofs.Slices.{copied_more}
use Rattle.stage.proofs.Laws.{counting_here, counting_on, length-counting}
use Rattle.stage.proofs.dwords.count_up.Goals as goal

pub loop-dword-preserved : goal.loop-dword-preserved
loop-dword-preserved c =
    let l = c.loop-dword in
    let a = c.args in
    let s = a.s.now in
    let i = l.dword-index in
    let all = counting a.first (length s) in
    let below = c.loop-dword-test.true in
    let left : length s - i ≡ suc (length s - (i + 1)) = omega arith in
    let goes_on : drop i all ≡ counting l.next (suc (length s - (i + 1))) =
    l.invariant.0 ∙ ap (counting l.next) left in
    let n = length-counting a.first (length s) in
    let copied = copied_more s all i (omega (arith, n)) (omega arith) in (
      counting_on all i l.next (length s - (i + 1)) goes_on,
      rw (l.invariant.1, ← counting_here all i l.next (length s - (i + 1)) goes_on) copied,
    )

pub returns : goal.returns
returns c =
    let l = c.loop-dword in
    let a = c.args in
    let s = a.s.now in
    let i = l.dword-index in
    let all : take i (counting a.first (length s)) ≡ counting a.first (length s) =
    take_all i (counting a.first (length s)) (omega (arith, length-counting a.first (length s))) in
    let none : drop i s ≡ [] = drop_of_length-le s {i = i} (omega arith) in
    l.invariant.1 ∙ simp (all, none, append-nil)
