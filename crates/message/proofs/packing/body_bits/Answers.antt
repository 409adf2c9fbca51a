-- `packing::body_bits` meets its contract, type by type: the fields of each lie where its row of the table says.
-- Assumes nothing.
use native.Mathlib.Omega.{arith}
use Rattle.message.specs.Fields.{fit, dword}
use Rattle.message.specs.Types.{type_of, carried, body_fields}
use Rattle.message.proofs.Tests.{and_true}
use Rattle.message.proofs.packing.body_bits.Goals as goal

pub returns-in-Request : goal.returns-in-Request
unfolding body_fields type_of carried fit dword
returns-in-Request c = grind (arith, and_true)

pub returns-in-Event : goal.returns-in-Event
unfolding body_fields type_of carried fit dword
returns-in-Event c = grind (arith, and_true)

pub returns-in-FastRequest : goal.returns-in-FastRequest
unfolding body_fields type_of carried fit dword
returns-in-FastRequest c = grind (arith, and_true)

pub returns-in-Busy : goal.returns-in-Busy
unfolding body_fields type_of carried fit dword
returns-in-Busy c = grind (arith, and_true)

pub returns-in-Retry : goal.returns-in-Retry
unfolding body_fields type_of carried fit dword
returns-in-Retry c = grind (arith, and_true)

pub returns-in-Failure : goal.returns-in-Failure
unfolding body_fields type_of carried fit dword
returns-in-Failure c = grind (arith, and_true)

pub returns-in-Success : goal.returns-in-Success
unfolding body_fields type_of carried fit dword
returns-in-Success c = grind (arith, and_true)
