-- `receiving::publish_at` meets its contract: 0 and 13 move HEAD, and 0 lays the message. Assumes nothing.
use mathlib.Core.Path.{◌≡◌, refl, sym, ap, ◌∙◌}
use lib.ListN.{length}
use borrow.Author.Rules.{rules}
use Rattle.refusal.specs.declared.Refusal.TheVariants.{Malformed}
use Rattle.channel.specs.Receive.{publish_by, publish_number_of}
use Rattle.channel.specs.declared.state.Counts.{Counts}
use Rattle.channel.proofs.Answered.{receive-publish-refused}
use Rattle.channel.proofs.Going.{Going}
use Rattle.channel.proofs.Steps.{publish_going, publish_long, publish-room}
use Rattle.side.specs.Words.{state_of}
use Rattle.side.proofs.InWords.{counts_past, n_is, words_publish}
use Rattle.side.proofs.receiving.publish_at.Goals as goal
use Rattle.side.proofs.receiving.publish_at.Goals.{In-Ok, In-Err-Malformed}

-- what the number says where it is 0 or 13: the state is active and fits, and the output has room
zero : (c : In-Ok) → let a = c.args in publish_number_of (state_of a.w.now) (length a.out.now) (length a.desc.now) a.n ≡ 0
zero c = sym (rw (c.counts_of-s.ensures, words_publish) at c.in-Ok.ensures)

thirteen : (c : In-Err-Malformed) → let a = c.args in publish_number_of (state_of a.w.now) (length a.out.now) (length a.desc.now) a.n ≡ 13
thirteen c = sym (rw (c.counts_of-s.ensures, words_publish, c.in-Err-Malformed.field-0-is) at c.in-Err-Malformed.ensures)

fits : (c : In-Ok) → let a = c.args in Going a.n (state_of a.w.now)
fits c = publish_going _ _ _ _ 0 (sym (zero c)) refl

-- L as it was taken of the state
len_is : (c : In-Ok) → c.counts_of-s.result.len ≡ (state_of c.args.w.now).len
len_is c = ap (λ (x : Counts). x.len) c.counts_of-s.ensures

pub lay-head-requires : goal.lay-head-requires
lay-head-requires c =
    let ok = (goal.at.lay-head-requires c).In-Ok in
    let long = publish_long _ _ _ _ (zero ok) in
    let room = publish-room _ _ _ _ 0 (sym (zero ok)) refl in
    (search rules, rw (len_is ok) long, rw (len_is ok) (fits ok).short, room, refl, refl)

pub returns-in-Ok : goal.returns-in-Ok
unfolding publish_by
returns-in-Ok c b e =
    let ok = (goal.at.returns-in-Ok c).In-Ok in
    let l = c.lay-head.ensures in
    let p = l.1 ∙ counts_past _ _ _ c.counts_of-s.ensures (fits ok) in
    rw (e, zero ok) (simp (c.publish_head.ensures, c.idle_at.ensures, p, l.0, len_is ok, n_is c.args.w.now))

pub returns-in-Err-Malformed : goal.returns-in-Err-Malformed
unfolding publish_by
returns-in-Err-Malformed c b e =
    let bad = (goal.at.returns-in-Err-Malformed c).In-Err-Malformed in
    let g = publish_going _ _ _ _ 13 (sym (thirteen bad)) refl in
    let p = c.past-head.ensures.0 ∙ counts_past _ _ _ c.counts_of-s.ensures g in
    rw (e, thirteen bad)
    (simp (c.publish_head-in-Err-Malformed.ensures, c.idle_at-in-Err-Malformed.ensures, p, n_is c.args.w.now))

pub returns-in-Err : goal.returns-in-Err
returns-in-Err c b e =
    let n : c.in-Err.reason ≡ Malformed → ⊥ = λ q. search rules in
    let f = rw (c.counts_of-s.ensures, words_publish, ← e) at c.in-Err.ensures in
    receive-publish-refused c.in-Err.reason _ _ b _ n f
