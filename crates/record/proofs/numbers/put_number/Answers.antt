-- `numbers::put_number` meets its contract: after some turns the bytes are those in the output, and then the groups of
-- what is left. Assumes nothing.
use mathlib.Core.Path.{refl, sym}
use native.Mathlib.Nat.{add-zero}
use native.Mathlib.Omega.{arith}
use lib.ListN.{length-set}
use Rattle.record.specs.Numbers.{bytes_of}
use Rattle.record.proofs.Sizes.{groups-size}
use Rattle.record.proofs.Putting.{shrinks, one_follows, put_more, last-size, put_last, behind_same}
use Rattle.record.proofs.numbers.put_number.Goals as goal

pub loop-rest-init : goal.loop-rest-init
unfolding bytes_of
loop-rest-init c =
    let v = c.args.value in
    (omega arith, omega (arith, c.ranges.value.fits), refl, omega (arith, (groups-size 4 v).0, c.requires), refl, refl)

pub loop-rest-preserved : goal.loop-rest-preserved
loop-rest-preserved c =
    let l = c.loop-rest in
    let a = c.args in
    let s = shrinks l.at l.rest l.invariant.0 l.invariant.1 (omega arith) in
    let f = one_follows (bytes_of a.value) l.out l.at l.rest l.invariant.5 l.invariant.3 (omega arith) s.0 in (
      omega (arith, s.0),
      s.1,
      simp length-set l.invariant.2,
      simp length-set (omega (arith, f, l.invariant.2, c.requires)),
      behind_same l.out a.out.now l.at _ l.invariant.4,
      put_more (bytes_of a.value) l.out l.at l.rest l.invariant.5 l.invariant.3 (omega arith) s.0,
    )

pub returns : goal.returns
returns c =
    let l = c.loop-rest in
    let a = c.args in (
      sym (last-size (bytes_of a.value) l.out l.at l.rest l.invariant.5 l.invariant.3 (omega arith)),
      rw (add-zero l.rest)
          (put_last (bytes_of a.value) l.out l.at l.rest l.invariant.5 l.invariant.3 (omega arith) a.out.now
          l.invariant.4),
    )
