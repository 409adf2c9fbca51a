-- `Receiver::look` meets its contract: a refusal marks STATUS and leaves the state; past it the header is taken. Assumes
-- nothing.
use mathlib.Core.Path.{sym, ap}
use Rattle.refusal.proofs.NotZero.{number-not-0}
use Rattle.ring.specs.Numbers.{marked}
use Rattle.ring.specs.AtOnce.{Judged}
use Rattle.channel.specs.Receive
use Rattle.channel.specs.State.{of_state, zeros}
use Rattle.channel.proofs.receiving.Receiver.look.Goals as goal

pub returns-in-Err : goal.returns-in-Err
unfolding Receive.look_by of_state
returns-in-Err c =
    let e = ap (λ (x : Judged). x.code) (rw c.is_idle-fits.ensures at c.in-Err.ensures) in
    rw (c.mark.ensures, c.number.ensures, ← e, number-not-0 c.in-Err.reason)

pub returns-in-Ok : goal.returns-in-Ok
unfolding Receive.look_by of_state marked zeros
returns-in-Ok c =
    let j = rw c.is_idle-fits.ensures at c.in-Ok.ensures in
    let z = sym (ap (λ (x : Judged). x.code) j) in
    let h = rw z at (ap (λ (x : Judged). x.header) j) in
    let l = rw z at (ap (λ (x : Judged). x.len) j) in
    rw (z, l, h, c.no_copy-copy.ensures)
