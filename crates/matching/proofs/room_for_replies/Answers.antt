-- `room_for_replies` meets its contract, which is the theorem. Assumes nothing.
use Rattle.matching.proofs.Rooms.{room_for_replies}
use Rattle.matching.proofs.room_for_replies.Goals as goal

pub returns : goal.returns
returns c = room_for_replies
