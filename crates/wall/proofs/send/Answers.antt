-- `send` meets its contract: the plan, its send, its store and its last fence kept are the opening. Assumes nothing.
use mathlib.Core.Path.{◌≡◌, ap, ◌∙◌, subst}
use lib.ListN.{length}
use Rattle.requests.specs.declared.asking.Ask.{Ask}
use Rattle.requests.specs.declared.planning.Plan.{Plan}
use Rattle.requests.specs.Plan.{asks_request, plan_of, state_in}
use Rattle.wall.proofs.Sendings.{PlanSent, sends-all}
use Rattle.wall.proofs.send.Goals as goal

pub returns : goal.returns
returns c =
    let a = c.args in
    let ys = a.t.now in
    let ws = a.wall.now in
    let n = length ys in
    let ask = asks_request a.room a.msg.now in
    let made = c.send_planned-sent in
    let of-plan : c.plan-p.result ≡ plan_of ys n (state_in ws) ask =
    c.plan-p.ensures ∙ ap (plan_of ys n (state_in ws)) c.ask_request-ask.ensures in
    let sent : PlanSent (plan_of ys n (state_in ws) ask) n ask a.msg.now a.sender.now a.desc.now a.buf.now made.result made.new.sender made.new.desc made.new.buf =
    subst (λ (k : Plan). PlanSent k n ask a.msg.now a.sender.now a.desc.now a.buf.now made.result made.new.sender made.new.desc made.new.buf)
    of-plan
    (subst (λ (k : Ask). PlanSent c.plan-p.result n k a.msg.now a.sender.now a.desc.now a.buf.now made.result made.new.sender made.new.desc made.new.buf)
    c.ask_request-ask.ensures made.ensures) in
    sends-all ys ws a.room a.msg.now a.sender.now a.desc.now a.buf.now made.result made.new.sender made.new.desc made.new.buf sent
    c.store.new.t c.keep_last.new.wall c.store.ensures c.keep_last.ensures
