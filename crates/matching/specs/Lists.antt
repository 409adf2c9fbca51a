-- Lists of openings and replies, run on a wall and on the plain map. Making the wall fresh is no call of a list: it starts
-- a new one.
use Rattle.std.specs.Prelude.{ℕ, ◌+◌, ◌<◌, not, ◌&&◌, cond, List, [], ◌∷◌, eqb}
use Rattle.std.proofs.Math.Option.{Option}
use Rattle.message.specs.declared.Message.{Message}
use Rattle.requests.specs.declared.planning.Answer.{Answer}
use Rattle.requests.specs.Calls.{Wall, Outcome, opening, reply}
use Rattle.matching.specs.Map.{Plain, PlainOutcome, plain_open, plain_reply}

-- an opening: the reply dwords to set aside, the message, and the number that the ring answers its whole send with, any
-- number here (Mixed.antt has the ring's own); or a reply: a received message as it unpacks, none where it is malformed
pub data Call : Type 0 where
  open_call : ℕ → List ℕ → ℕ → Call
  reply_call : Option Message → Call

-- 'the ring's own' numbers are those of a whole send. All are below 14: 'Numbers 6 to 11 belong to looks, 14 onward to
-- packing and firmware'
abbrev pub OfRing : Call → Type 0
OfRing (open_call room m ring) = ring < 14
OfRing (reply_call received) = Unit {0}

abbrev pub AllOfRing : List Call → Type 0
AllOfRing [] = Unit {0}
AllOfRing (c ∷ cs) = OfRing c × AllOfRing cs

-- ---- a wall: a table and a state that nothing else writes

-- what a call gives on a wall: its answer, and the wall after it
abbrev pub outcome : Wall → Call → Outcome
outcome w (open_call room m ring) = opening w room m ring
outcome w (reply_call received) = reply w received

-- all answers of a list of calls, and the wall at its end
unfoldable pub run : Wall → List Call → List Answer
run w [] = []
run w (c ∷ cs) = (outcome w c).answer ∷ run (outcome w c).wall cs

unfoldable pub end : Wall → List Call → Wall
end w [] = w
end w (c ∷ cs) = end (outcome w c).wall cs

-- ---- the plain map, fed the same list

abbrev pub plain_outcome : Plain → Call → PlainOutcome
plain_outcome p (open_call room m ring) = plain_open p room m ring
plain_outcome p (reply_call received) = plain_reply p received

unfoldable pub plain_run : Plain → List Call → List Answer
plain_run p [] = []
plain_run p (c ∷ cs) = (plain_outcome p c).answer ∷ plain_run (plain_outcome p c).next cs

unfoldable pub plain_end : Plain → List Call → Plain
plain_end p [] = p
plain_end p (c ∷ cs) = plain_end (plain_outcome p c).next cs

-- ---- the history: how many calls opened a request, and how many closed one

abbrev pub opens_one : Call → Answer → ℕ
opens_one (open_call room m ring) a = cond (eqb a.code 0) 1 0
opens_one (reply_call received) a = 0

-- 'success or failure .. closes it', 'retry closes it'; busy, 3, does not
abbrev pub closes_one : Call → Answer → ℕ
closes_one (open_call room m ring) a = 0
closes_one (reply_call received) a = cond (eqb a.code 0 && not (eqb a.kind 3)) 1 0

unfoldable pub openings : List Call → List Answer → ℕ
openings [] ss = 0
openings (c ∷ cs) [] = 0
openings (c ∷ cs) (a ∷ ss) = opens_one c a + openings cs ss

unfoldable pub closings : List Call → List Answer → ℕ
closings [] ss = 0
closings (c ∷ cs) [] = 0
closings (c ∷ cs) (a ∷ ss) = closes_one c a + closings cs ss
