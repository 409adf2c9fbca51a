-- `sending::store_left` meets its contract: what is left begins with the first dword, with the second, or behind them.
-- Assumes nothing.
use Prim.Native.Nat.{◌-◌}
use mathlib.Core.Path.{◌∙◌}
use native.Mathlib.Omega.{arith}
use lib.ListN.{take, drop}
use Rattle.message.proofs.Slices.{to_end}
use Rattle.side.specs.Words.{state_of}
use Rattle.side.proofs.InWords.{copy_at}
use Rattle.side.proofs.Left.{copy_long, part_length, stored-all, stored_past, stored-second}
use Rattle.side.proofs.sending.store_left.Goals as goal

pub returns-then-moved-eq0 : goal.returns-then-moved-eq0
unfolding state_of
returns-then-moved-eq0 c =
    let after_store = c in
    let none-moved = after_store in
    let start = none-moved in
    let a = start.args in
    let w = a.w.now in
    let f = copy_long w start.requires.0 in
    let e = rw (to_end, start.requires.1 ∙ copy_at 0 w, start.requires.2 ∙ copy_at 1 w) at after_store.store_message.ensures.0 in
    let all = stored-all a.buf.now (drop 4 w) a.own a.len in
    rw none-moved.if-moved-eq0.true (e ∙ all (omega arith) (omega arith) (omega arith) (omega arith) (omega arith))

pub returns-then-moved-eq1 : goal.returns-then-moved-eq1
unfolding state_of
returns-then-moved-eq1 c =
    let after_store = c in
    let after-put = after_store in
    let one-moved = after-put in
    let start = one-moved in
    let a = start.args in
    let w = a.w.now in
    let f = copy_long w start.requires.0 in
    let p = after-put.past.ensures.0 in
    let p₂ = after_store.past-then-moved-eq1.ensures.0 in
    let e = rw (to_end, after-put.put.ensures, p, p₂, start.requires.2 ∙ copy_at 1 w) at after_store.store_dwords.ensures in
    let second = stored-second a.buf.now (drop 4 w) a.own a.len in
    rw one-moved.if-moved-eq1.true (e ∙ second (omega arith) (omega arith) (omega arith) (omega arith) (omega arith))

pub returns : goal.returns
unfolding state_of
returns c =
    let start =
    let after-past = c in
    after-past in
    let a = start.args in
    let m = drop 4 a.w.now in
    let f = copy_long a.w.now start.requires.0 in
    let e = rw (to_end, c.past-2.ensures.0) at c.store_dwords-2.ensures in
    let l = part_length m a.len a.moved (omega arith) in
    e
    ∙ stored_past a.buf.now a.own a.moved (take (a.len - a.moved) (drop a.moved m))
    (omega arith) (omega arith) (omega arith) (omega arith)
