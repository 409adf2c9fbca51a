-- `asking::ask_request` meets its contract. Assumes nothing.
use borrow.Author.Tests.{lt-leb, le-leb}
use Rattle.message.specs.Header.{is_request, is_message}
use Rattle.requests.specs.Plan.{asks_request}
use Rattle.requests.proofs.asking.ask_request.Goals as goal

pub returns-then-room-gt-ROOM_MAX : goal.returns-then-room-gt-ROOM_MAX
unfolding asks_request is_request is_message
returns-then-room-gt-ROOM_MAX c =
    let q = c in
    simp (
      c.request_number.ensures,
      q.dword_at-word.ensures,
      q.dword_at-header.ensures,
      lt-leb _ _ c.if-room-gt-ROOM_MAX.true,
    )

pub returns-else-room-gt-ROOM_MAX : goal.returns-else-room-gt-ROOM_MAX
unfolding asks_request is_request is_message
returns-else-room-gt-ROOM_MAX c =
    let q = c in
    simp (
      c.request_number.ensures,
      q.dword_at-word.ensures,
      q.dword_at-header.ensures,
      le-leb _ _ c.if-room-gt-ROOM_MAX.false,
    )
