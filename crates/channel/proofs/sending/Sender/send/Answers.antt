-- `Sender::send` meets its contract: a whole send at once is its steps one after another. Assumes nothing.
use borrow.Author.Rules.{rules}
use Rattle.channel.specs.State.{of_state}
use Rattle.channel.proofs.Wholes.{send_refused, whole_sent}
use Rattle.channel.proofs.sending.Sender.send.Goals as goal

pub returns-in_err-tail : goal.returns-in_err-tail
unfolding of_state
returns-in_err-tail c =
    let e = rw c.is_idle-fits.ensures at c.in_err-tail.ensures in
    search (rules, send_refused _ _ _ _ _ _ _ e)

pub returns : goal.returns
unfolding of_state
returns c =
    let e = rw c.is_idle-fits.ensures at c.in_ok-tail.ensures in
    (whole_sent _ _ _ _ _ _ _ e).own-moves _ c.idle_at-self.ensures
