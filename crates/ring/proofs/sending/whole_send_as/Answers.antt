-- `sending::whole_send_as` meets its contract: the message is placed, and then the send is ended. Assumes nothing.
use Rattle.ring.specs.AtOnce.{opened_by}
use Rattle.ring.proofs.Sent.{whole_placed}
use Rattle.ring.proofs.sending.whole_send_as.Goals as goal

pub returns : goal.returns
returns c =
    let a = c.args in
    let m = opened_by a.header a.word a.msg.now in
    whole_placed a.fits a.own m a.desc.now a.buf.now _ _ _ c.place_message-placed.ensures c.end_send.ensures
