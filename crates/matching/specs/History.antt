-- T-08's 'requests opened and not yet closed, defined from the history': from the calls and their answers alone. No table
-- is known here. The calls are openings and replies; making the wall fresh starts a new history.
use Rattle.std.specs.Prelude.{ℕ, ◌+◌, not, ◌&&◌, cond, List, [], ◌∷◌, eqb}
use Rattle.std.proofs.Math.Option.{none, some}
use Rattle.requests.specs.declared.planning.Answer.{Answer}
use Rattle.matching.specs.Lists.{Call, open_call, reply_call}

-- a request 'opened and not yet closed': the fence that its opening answered, and the dwords that it asked for
pub record Held : Type 0 where
  pub fence : ℕ
  pub room : ℕ

abbrev pub held_for : ℕ → ℕ → Held
held_for fence room = record { fence = fence; room = room }

-- without the requests of a fence
unfoldable pub without : ℕ → List Held → List Held
without f [] = []
without f (h ∷ hs) = cond (eqb h.fence f) (without f hs) (h ∷ without f hs)

-- what is held after a call with this answer: an opening answered 0 adds its request; a reply answered 0 with another
-- kind than busy, 3, takes out the request of its message's fence
abbrev pub held_after : List Held → Call → Answer → List Held
held_after hs (open_call room m ring) a = cond (eqb a.code 0) (held_for a.fence room ∷ hs) hs
held_after hs (reply_call none) a = hs
held_after hs (reply_call (some m)) a = cond (eqb a.code 0 && not (eqb a.kind 3)) (without m.fence hs) hs

unfoldable pub held_from : List Held → List Call → List Answer → List Held
held_from hs [] ss = hs
held_from hs (c ∷ cs) [] = hs
held_from hs (c ∷ cs) (a ∷ ss) = held_from (held_after hs c a) cs ss

-- at first nothing is
abbrev pub still_held : List Call → List Answer → List Held
still_held cs ss = held_from [] cs ss

unfoldable pub sum_of : List Held → ℕ
sum_of [] = 0
sum_of (h ∷ hs) = h.room + sum_of hs
