-- `reply` meets its contract: the plan of what was heard, carried out. Assumes nothing.
use mathlib.Core.Path.{◌≡◌, sym, ap, ◌∙◌}
use lib.ListN.{length, get_or}
use Rattle.requests.specs.declared.planning.Plan.{Plan}
use Rattle.requests.specs.Calls.{wall_of}
use Rattle.requests.specs.Plan.{asks_reply, carried, plan_of, state_in}
use Rattle.requests.proofs.Carried.{carries_reply, reply-last}
use Rattle.wall.proofs.Records.{carried-out}
use Rattle.wall.proofs.reply.Goals as goal

pub returns : goal.returns
returns c =
    let ys = c.args.t.now in
    let ws = c.args.wall.now in
    let p = c.plan-p.result in
    let told : p ≡ plan_of ys (length ys) (state_in ws) (asks_reply c.args.heard) =
    c.plan-p.ensures ∙ ap (plan_of ys (length ys) (state_in ws)) c.ask_reply-ask.ensures in
    let last : p.last ≡ get_or ws 0 0 =
    ap (λ (k : Plan). k.last) told ∙ reply-last (wall_of ys ws) c.args.heard in
    carried-out p ys c.store.new.t ws (get_or ws 0 0) (get_or ws 1 0) c.store.ensures (sym last)
    ∙ ap (λ (k : Plan). carried k (wall_of ys ws)) told ∙ carries_reply (wall_of ys ws) c.args.heard
