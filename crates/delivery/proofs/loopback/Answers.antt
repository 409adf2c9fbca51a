-- `loopback` meets its contract: its three calls are the loop of the definitions, of which demand 3 says that the
-- message comes back. Assumes nothing.
use mathlib.Core.Path.{sym, ap, ◌∙◌, subst}
use Rattle.channel.specs.Opening.{Opening}
use Rattle.delivery.specs.Loopback.{ComesBack}
use Rattle.delivery.proofs.SelfTest.{loopback}
use Rattle.delivery.proofs.Calls.{opens_sixteen, opens-allowed, loop_calls}
use Rattle.delivery.proofs.loopback.Goals as goal

pub returns : goal.returns
returns c =
    let a = c.args in
    let d = a.desc.now in
    let b = a.buf.now in
    let m = a.msg.now in
    let o = a.out.now in
    let start = c.open_channel-start.ensures in
    let e = loop_calls d b m o _ _ _ _ _ _ _ _ _ _ start c.send-sent.ensures c.receive-received.ensures in
    record {
      out_after = e;
      comes_back =
          λ z.
          let n = sym (ap (λ (y : Opening). y.code) start) ∙ z in
          subst (ComesBack m o) (sym e) (loopback d b m o (opens_sixteen d b n) (opens-allowed d b n));
    }
