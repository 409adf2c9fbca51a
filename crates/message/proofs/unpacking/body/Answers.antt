-- `unpacking::body` meets its contract: the type picks its row of the table. Assumes nothing.
use native.Mathlib.Nat.{div-one}
use Rattle.message.specs.Types.{type_of, bodies_from, bodies, of_type, body_of}
use Rattle.message.proofs.unpacking.body.Goals as goal

pub returns-in-Request : goal.returns-in-Request
unfolding body_of bodies_from bodies of_type type_of
returns-in-Request c = simp (← c.requires, c.in-Request.is, div-one)

pub returns-in-Event : goal.returns-in-Event
unfolding body_of bodies_from bodies of_type type_of
returns-in-Event c = simp (← c.requires, c.in-Event.is, div-one)

pub returns-in-FastRequest : goal.returns-in-FastRequest
unfolding body_of bodies_from bodies of_type type_of
returns-in-FastRequest c = simp (← c.requires, c.in-FastRequest.is, div-one)

pub returns-in-Busy : goal.returns-in-Busy
unfolding body_of bodies_from bodies of_type type_of
returns-in-Busy c = simp (← c.requires, c.in-Busy.is, div-one)

pub returns-in-Retry : goal.returns-in-Retry
unfolding body_of bodies_from bodies of_type type_of
returns-in-Retry c = simp (← c.requires, c.in-Retry.is, div-one)

pub returns-in-Failure : goal.returns-in-Failure
unfolding body_of bodies_from bodies of_type type_of
returns-in-Failure c = simp (← c.requires, c.in-Failure.is, div-one)

pub returns-in-Success : goal.returns-in-Success
unfolding body_of bodies_from bodies of_type type_of
returns-in-Success c = simp (← c.requires, c.in-Success.is, div-one)
