-- `receiving::whole_receive` meets its contract: the message is taken, and then the receive is ended. Assumes nothing.
use native.Mathlib.Omega.{arith}
use Rattle.ring.proofs.Taken.{taken_zero, whole-taken}
use Rattle.ring.proofs.receiving.whole_receive.Goals as goal

pub end_receive-requires : goal.end_receive-requires
end_receive-requires c e =
    let a = c.args in
    let p = c.take_message-taken.ensures in
    omega (arith, p.small (taken_zero a.fits a.own a.out.now a.desc.now a.buf.now _ p.code e))

pub returns : goal.returns
returns c =
    let a = c.args in
    whole-taken a.fits a.own a.out.now a.desc.now a.buf.now _ _ _ c.take_message-taken.ensures c.end_receive.ensures
