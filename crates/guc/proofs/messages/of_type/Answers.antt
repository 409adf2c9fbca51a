-- `messages::of_type` meets its contract: the type picks its row of the table. Assumes nothing.
use Rattle.message.specs.Types.{type_of, bodies_from, of_type}
use Rattle.guc.specs.Messages.{number_for, body_for}
use Rattle.guc.proofs.messages.of_type.Goals as goal

pub returns-in-Request : goal.returns-in-Request
unfolding body_for bodies_from number_for of_type type_of
returns-in-Request c = simp c.in-Request.is

pub returns-in-Event : goal.returns-in-Event
unfolding body_for bodies_from number_for of_type type_of
returns-in-Event c = simp c.in-Event.is

pub returns-in-FastRequest : goal.returns-in-FastRequest
unfolding body_for bodies_from number_for of_type type_of
returns-in-FastRequest c = simp c.in-FastRequest.is

pub returns-in-Busy : goal.returns-in-Busy
unfolding body_for bodies_from number_for of_type type_of
returns-in-Busy c = simp c.in-Busy.is

pub returns-in-Retry : goal.returns-in-Retry
unfolding body_for bodies_from number_for of_type type_of
returns-in-Retry c = simp c.in-Retry.is

pub returns-in-Failure : goal.returns-in-Failure
unfolding body_for bodies_from number_for of_type type_of
returns-in-Failure c = simp c.in-Failure.is

pub returns-in-Success : goal.returns-in-Success
unfolding body_for bodies_from number_for of_type type_of
returns-in-Success c = simp c.in-Success.is
