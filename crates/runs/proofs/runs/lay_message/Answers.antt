-- `runs::lay_message` meets its contract: its test is the definition's. Assumes nothing.
use mathlib.Core.Bool.{◌&&◌}
use lib.Dec.{leb, ltb}
use lib.ListN.{length}
use borrow.Author.Tests.{leb-true, ltb-true}
use Rattle.message.proofs.Tests.{and_l, and_r}
use Rattle.runs.specs.Buffer.{laid_from}
use Rattle.runs.proofs.runs.lay_message.Goals as goal

pub lay_read-requires : goal.lay_read-requires
lay_read-requires c =
    let a = c.args in
    let n = length a.buf.now in
    let o = length a.out.now in
    let t = c.if-there-len.true in
    let u = and_l (ltb a.own n && leb 2 a.len && leb a.len n && leb n 16384) (leb a.len o) t in
    let v = and_l (ltb a.own n && leb 2 a.len && leb a.len n) (leb n 16384) u in
    let w = and_l (ltb a.own n && leb 2 a.len) (leb a.len n) v in (
      leb-true 2 a.len (and_r (ltb a.own n) (leb 2 a.len) w),
      leb-true a.len o (and_r (ltb a.own n && leb 2 a.len && leb a.len n && leb n 16384) (leb a.len o) t),
      leb-true a.len n (and_r (ltb a.own n && leb 2 a.len) (leb a.len n) v),
      ltb-true a.own n (and_l (ltb a.own n) (leb 2 a.len) w),
      leb-true n 16384 (and_r (ltb a.own n && leb 2 a.len && leb a.len n) (leb n 16384) u),
    )

pub returns-then-there-len : goal.returns-then-there-len
unfolding laid_from
returns-then-there-len c =
    let p = c.past-head.ensures in
    (rw c.if-there-len.true c.lay_read.ensures, p.0, p.1)

pub returns-else-there-len : goal.returns-else-there-len
unfolding laid_from
returns-else-there-len c =
    let p = c.past-head.ensures in
    (rw c.if-there-len.false, p.0, p.1)
