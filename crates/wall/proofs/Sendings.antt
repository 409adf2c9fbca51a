-- An opening, of its plan, its send, its store and its last fence kept. Assumes nothing.
use Prim.Native.Nat.{ℕ}
use mathlib.Core.Path.{◌≡◌, sym, ap, ◌∙◌}
use mathlib.Core.Bool.{true, false, cond}
use mathlib.Core.List.{List, []}
use lib.ListN.{length, get_or, set}
use lib.Dec.{eqb}
use borrow.Author.Tests.{eqb-true}
use Rattle.message.specs.Header.{header_with, with_fence}
use Rattle.message.proofs.Refenced.{refenced_set}
use Rattle.message.proofs.Tests.{cases}
use Rattle.ring.specs.AtOnce.{opened_by}
use Rattle.channel.specs.State.{State}
use Rattle.channel.specs.Outcome as channel
use Rattle.channel.specs.Send
use Rattle.side.specs.Words.{state_of, in_words}
use Rattle.requests.specs.declared.record.Record.{Record}
use Rattle.requests.specs.declared.asking.Ask.{Ask}
use Rattle.requests.specs.declared.planning.Plan.{Plan}
use Rattle.requests.specs.declared.state.State as declared
use Rattle.requests.specs.Calls.{Wall, wall_of, given, open_number, picked_fence, open_by}
use Rattle.requests.specs.Opening.{send_for, sending}
use Rattle.requests.specs.Plan.{asks_request, carried, plan_of, sent_plan, state_in, last_kept}
use Rattle.requests.proofs.Plans.{kept-last}
use Rattle.requests.proofs.Carried.{plan_number, plan_picked, carries_opening, sent_was}
use Rattle.wall.specs.Sent.{sent_in}
use Rattle.wall.specs.Private.{planned_send}

-- the state after its last fence is kept
abbrev pub Kept : List ℕ → ℕ → ℕ → List ℕ → Type 0
Kept ws was last us = state_in us ≡ record { last = last_kept was last (get_or ws 0 0); n = get_or ws 1 0 }

-- what is sent for a plan, and the plan afterwards
abbrev pub PlanSent : Plan → ℕ → Ask → List ℕ → List ℕ → List ℕ → List ℕ → Plan → List ℕ → List ℕ → List ℕ → Type 0
PlanSent p n a ms ss ds bs r s' d' b' =
    (in_words r.answer.code 0 s' d' b' [] ≡ planned_send p a ms (state_of ss) ds bs)
    × (r ≡ cond (eqb p.answer.code 0) (sent_plan r.answer.code n p) p)

module _ (ys : List Record) (ws : List ℕ) (room : ℕ) (m : List ℕ) where
  abbrev w : Wall
  w = wall_of ys ws

  abbrev asked : Ask
  asked = asks_request room m

  abbrev planned : Plan
  planned = plan_of ys (length ys) (state_in ws) asked

  -- what is sent for the plan is what is sent for the wall
  same_send : (s : State) (d b : List ℕ) → planned_send planned asked m s d b ≡ send_for w room m s d b
  unfolding planned_send send_for asks_request
  same_send s d b =
      cases (eqb (open_number w room m) 0)
      (λ z.
      let code : eqb planned.answer.code 0 ≡ true = ap (λ (c : ℕ). eqb c 0) (plan_number w room m) ∙ z in
      let fence = plan_picked w room m (eqb-true (open_number w room m) 0 z) in
      let dwords : opened_by (header_with planned.last (get_or m 0 0)) (get_or m 1 0) m ≡ with_fence (picked_fence w) m =
      ap (λ (f : ℕ). opened_by (header_with f (get_or m 0 0)) (get_or m 1 0) m) fence ∙ sym (refenced_set (picked_fence w) m) in
      rw (code, z) (ap (λ (k : List ℕ). Send.whole s k d b) dwords))
      (λ z.
      let code : eqb planned.answer.code 0 ≡ false = ap (λ (c : ℕ). eqb c 0) (plan_number w room m) ∙ z in
      rw (code, z) (ap (λ (c : ℕ). channel.refused c s d b []) (plan_number w room m)))

  module _ (s d b : List ℕ) (r : Plan) (s' d' b' : List ℕ)
      (e : PlanSent planned (length ys) asked m s d b r s' d' b')
      (zs : List Record) (us : List ℕ) (ez : zs ≡ set ys r.at r.stored) (ek : Kept ws r.was r.last us) where
    abbrev x : channel.Outcome
    x = send_for w room m (state_of s) d b

    sent : in_words r.answer.code 0 s' d' b' [] ≡ x
    sent = e.0 ∙ same_send (state_of s) d b

    last : get_or us 0 0 ≡ r.last
    last =
        ap (λ (k : declared.State). k.last) ek
        ∙ ap (last_kept r.was r.last) (sym (sent_was w room m r e.1)) ∙ kept-last r.was r.last

    kept-n : get_or us 1 0 ≡ get_or ws 1 0
    kept-n = ap (λ (k : declared.State). k.n) ek

    -- the wall after it
    wall-after : given r.answer zs us ≡ carried r w
    unfolding carried
    wall-after = λ i. record {
      answer = r.answer;
      wall = record { table = ez i; last = last i; n = kept-n i };
    }

    opened : given r.answer zs us ≡ open_by x.code w room m
    opened =
        wall-after ∙ carries_opening w room m r e.1
        ∙ ap (λ (o : channel.Outcome). open_by o.code w room m) sent

    pub sends-all : sent_in r.answer zs us s' d' b' ≡ sending w room m (state_of s) d b
    unfolding sending
    sends-all = λ i. record {
      answer = (opened i).answer;
      wall = (opened i).wall;
      next = (sent i).next;
      desc = (sent i).desc;
      buf = (sent i).buf;
    }
