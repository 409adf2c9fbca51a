-- `planning::plan_reply` meets its contract: the place of the fence is within the table where it is open. Assumes
-- nothing.
use Prim.Native.Nat.{ℕ, ◌<◌}
use mathlib.Core.Path.{◌≡◌, sym, ap, ◌∙◌}
use native.Mathlib.Omega.{arith}
use lib.ListN.{length, get_or, length-map}
use borrow.Author.Tests.{not-true, not-false}
use Rattle.requests.specs.Table.{free_record, place_of}
use Rattle.requests.specs.Words.{record_of, records, records_with}
use Rattle.requests.proofs.OpenFences.{place_le, within_open, end-closed}
use Rattle.requests.proofs.Beside.{with_length, with_place, with_at}
use Rattle.requests.proofs.Plans.{reply-closed, reply-other, reply-there}
use Rattle.requests.proofs.planning.plan_reply.Goals as goal
use Rattle.requests.proofs.planning.plan_reply.Goals.{Else-at-words}

-- past the test of its place the fence is open
within : (c : Else-at-words) → c.place_of-at.result < length c.args.words.now
within c =
    let a = c.args in
    let at = c.place_of-at.ensures in
    let l = place_le a.fence (records a.words.now) in
    omega (arith, length-map a.words.now record_of, c.if-at-words.false)

pub returns-then-at-words : goal.returns-then-at-words
returns-then-at-words c =
    let q = c in
    let a = q.args in
    let t = records_with a.words.now a.rooms.now in
    let at = q.place_of-at.ensures ∙ sym (with_place a.fence a.words.now a.rooms.now) in
    let n = with_length a.words.now a.rooms.now in
    let end : length t ≡ q.place_of-at.result = omega (arith, c.if-at-words.true) in
    let closed = end-closed a.fence t (omega arith) in
    c.refuse.ensures ∙ sym (reply-closed t a.last a.kind a.fence end closed)

pub returns-then-not-is_reply : goal.returns-then-not-is_reply
returns-then-not-is_reply c =
    let q = c in
    let k = sym q.is_reply.ensures ∙ not-true _ c.if-not-is_reply.true-raw in
    let a = q.args in
    let n = with_length a.words.now a.rooms.now in
    c.refuse-then-not-is_reply.ensures
    ∙ sym (reply-other (records_with a.words.now a.rooms.now) a.last a.kind a.fence n k)

pub returns : goal.returns
returns c =
    let s = c in
    let q = s in
    let a = q.args in
    let words = a.words.now in
    let rooms = a.rooms.now in
    let t = records_with words rooms in
    let at = q.place_of-at.ensures ∙ sym (with_place a.fence words rooms) in
    let l = within (goal.at.returns q).Else-at-words in
    let n = with_length words rooms in
    let o = within_open a.fence t (omega arith) in
    let k = sym s.is_reply.ensures ∙ not-false _ s.if-not-is_reply.false-raw in
    let there = reply-there t a.last a.kind a.fence n o k in
    let r : get_or t (place_of a.fence t) free_record ≡ c.record_of.result =
    ap (λ (i : ℕ). get_or t i free_record) (sym at) ∙ with_at words rooms _ l ∙ sym c.record_of.ensures in
    c.answer_at.ensures ∙ sym (there ∙ rw (r, sym at))

pub offset_bounds-words-at : goal.offset_bounds-words-at
offset_bounds-words-at c = omega (arith, within (goal.at.offset_bounds-words-at c).Else-at-words)

pub bounds-words-at : goal.bounds-words-at
bounds-words-at c = within (goal.at.bounds-words-at c).Else-at-words

pub offset_bounds-rooms-at : goal.offset_bounds-rooms-at
offset_bounds-rooms-at c = omega (arith, within (goal.at.offset_bounds-rooms-at c).Else-at-words)

pub bounds-rooms-at : goal.bounds-rooms-at
bounds-rooms-at c = omega (arith, within (goal.at.bounds-rooms-at c).Else-at-words, c.requires)
