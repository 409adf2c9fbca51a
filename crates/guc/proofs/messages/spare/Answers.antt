-- `messages::spare` meets its contract. Assumes nothing.
use Rattle.message.specs.Types.{carried}
use Rattle.guc.specs.Messages.{spare}
use Rattle.guc.proofs.messages.spare.Goals as goal

pub returns-in-Request : goal.returns-in-Request
unfolding spare carried
returns-in-Request c = rw c.in-Request.is

pub returns-in-Event : goal.returns-in-Event
unfolding spare carried
returns-in-Event c = rw c.in-Event.is

pub returns-in-FastRequest : goal.returns-in-FastRequest
unfolding spare carried
returns-in-FastRequest c = rw c.in-FastRequest.is

pub returns-in-Busy : goal.returns-in-Busy
unfolding spare carried
returns-in-Busy c = rw c.in-Busy.is

pub returns-in-Retry : goal.returns-in-Retry
unfolding spare carried
returns-in-Retry c = rw c.in-Retry.is

pub returns-in-Failure : goal.returns-in-Failure
unfolding spare carried
returns-in-Failure c = rw c.in-Failure.is

pub returns-in-Success : goal.returns-in-Success
unfolding spare carried
returns-in-Success c = rw c.in-Success.is
