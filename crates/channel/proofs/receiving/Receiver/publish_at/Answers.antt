-- `Receiver::publish_at` meets its contract: 0 and 13 move HEAD, and 0 lays the message. Where HEAD moves the state is
-- active and fits, and the output has room. Assumes nothing.
use Prim.Native.Nat.{◌+◌, ◌-◌, ◌≤◌}
use mathlib.Core.Path.{◌≡◌, refl, sym, ◌∙◌}
use native.Mathlib.Omega.{arith}
use lib.ListN.{length, take, drop, length-take, length-drop}
use borrow.Author.Rules.{rules}
use Rattle.channel.specs.Receive.{publish_by, publish_number_of}
use Rattle.channel.specs.State.{active_receive, of_receiver, of_state}
use Rattle.refusal.specs.declared.Refusal.TheVariants.{Malformed}
use Rattle.channel.proofs.Answered.{receive-publish-refused}
use Rattle.channel.proofs.Going.{Going, going_past}
use Rattle.channel.proofs.Steps.{laid-copy, publish_going, publish_long, publish-room}
use Rattle.channel.proofs.receiving.Receiver.publish_at.Goals as goal
use Rattle.channel.proofs.receiving.Receiver.publish_at.Goals.{In-Ok, In-Err-Malformed}

-- what the number says where it is 0 or 13: the state is active and fits, and the output has room
zero : (c : In-Ok) → let a = c.args in publish_number_of (of_receiver a.self.now) (length a.out.now) (length a.desc.now) a.n ≡ 0
unfolding publish_number_of active_receive of_state
zero c = sym (rw c.counts-counts.ensures at c.in-Ok.ensures)

thirteen : (c : In-Err-Malformed) → let a = c.args in publish_number_of (of_receiver a.self.now) (length a.out.now) (length a.desc.now) a.n ≡ 13
unfolding publish_number_of active_receive of_state
thirteen c = sym (rw (c.counts-counts.ensures, c.in-Err-Malformed.field-0-is) at c.in-Err-Malformed.ensures)

fits : (c : In-Ok) → let a = c.args in Going a.n (of_receiver a.self.now)
fits c = publish_going _ _ _ _ 0 (sym (zero c)) refl

room : (c : In-Ok) → 256 ≤ length c.args.out.now
room c = publish-room _ _ _ _ 0 (sym (zero c)) refl

-- the message has at least two dwords, and is a part of the copy
long : (c : In-Ok) → 2 ≤ c.args.self.now.state.len
unfolding of_state
long c = publish_long _ _ _ _ (zero c)

full : (c : In-Ok) → length c.args.self.now.state.copy ≡ 256
full c = search rules

within : (c : In-Ok) → let s = c.args.self.now.state in s.len ≤ length s.copy
unfolding of_state
within c = omega (arith, (fits c).short, full c)

pub slice_bounds-rest-count : goal.slice_bounds-rest-count
slice_bounds-rest-count c = long (goal.at.slice_bounds-rest-count c).In-Ok

pub slice_bounds-rest-start : goal.slice_bounds-rest-start
slice_bounds-rest-start c = long (goal.at.slice_bounds-rest-start c).In-Ok

pub slice_bounds-rest-end : goal.slice_bounds-rest-end
unfolding of_state
slice_bounds-rest-end c = omega (arith, (fits (goal.at.slice_bounds-rest-end c).In-Ok).short)

pub returns-in-Ok : goal.returns-in-Ok
unfolding publish_by of_state
returns-in-Ok c b e =
    let ok = (goal.at.returns-in-Ok c).In-Ok in
    let s = c.args.self.now.state in
    let l = c.lay_copy-head.ensures in
    let m = s.copy in
    let n = s.len in
    let z : 2 + length (take (n - 2) (drop 2 m)) ≡ n = simp (length-take, length-drop) (omega (arith, long ok, within ok)) in
    let p = rw z at l.1 ∙ going_past _ _ (fits ok) in
    let o = l.0 ∙ laid-copy n m c.args.out.now (long ok) (within ok) (omega (arith, room ok, (fits ok).short)) in
    rw (e, zero ok) (simp (c.idle_at-self.ensures, c.publish_head.ensures, p, o))

pub returns-in-Err-Malformed : goal.returns-in-Err-Malformed
unfolding publish_by of_state
returns-in-Err-Malformed c b e =
    let bad = (goal.at.returns-in-Err-Malformed c).In-Err-Malformed in
    let p = c.past-head.ensures.0 ∙ going_past _ _ (publish_going _ _ _ _ 13 (sym (thirteen bad)) refl) in
    rw (e, thirteen bad) (simp (c.idle_at-self-in-Err-Malformed.ensures, c.publish_head-in-Err-Malformed.ensures, p))

pub returns-in-Err : goal.returns-in-Err
unfolding publish_number_of active_receive of_state
returns-in-Err c b e =
    let n : c.in-Err.reason ≡ Malformed → ⊥ = λ q. search rules in
    let f = rw (c.counts-counts.ensures, ← e) at c.in-Err.ensures in
    receive-publish-refused c.in-Err.reason _ _ b _ n f
