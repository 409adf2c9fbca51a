-- `asking::request_number` meets its contract: 14, then 27 for either of its causes. Assumes nothing.
use mathlib.Core.Path.{sym, ◌∙◌}
use borrow.Author.Tests.{lt-leb, le-leb, not-true, not-false, eq-eqb, ne_eqb}
use Rattle.ring.specs.Numbers.{need}
use Rattle.requests.proofs.asking.request_number.Goals as goal

pub returns-then-room-gt-ROOM_MAX : goal.returns-then-room-gt-ROOM_MAX
unfolding need
returns-then-room-gt-ROOM_MAX c = simp (lt-leb _ _ c.if-room-gt-ROOM_MAX.true)

pub returns-then-not-starts_message : goal.returns-then-not-starts_message
unfolding need
returns-then-not-starts_message c =
    let q = c in
    simp (le-leb _ _ q.if-room-gt-ROOM_MAX.false, sym c.starts_message.ensures ∙ not-true _ c.if-not-starts_message.true-raw)

pub returns-then-hxg_type : goal.returns-then-hxg_type
unfolding need
returns-then-hxg_type c =
    let q = c in
    let s = sym q.starts_message.ensures ∙ not-false _ q.if-not-starts_message.false-raw in
    let t = c.hxg_type.ensures in
    simp (le-leb _ _ q.if-room-gt-ROOM_MAX.false, s, rw t at (ne_eqb _ 0 c.if-hxg_type.true))

pub returns : goal.returns
unfolding need
returns c =
    let q = c in
    let s = sym q.starts_message.ensures ∙ not-false _ q.if-not-starts_message.false-raw in
    let t = c.hxg_type.ensures in
    simp (le-leb _ _ q.if-room-gt-ROOM_MAX.false, s, rw t at (eq-eqb _ 0 c.if-hxg_type.false))
