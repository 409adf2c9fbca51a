-- A plan: what a call does to a table and to the last fence, before it is done.
use Rattle.std.specs.Prelude.{ℕ, ◌+◌, ◌-◌, true, false, not, ◌&&◌, cond, List, length, get_or, set, eqb, leb, ltb}
use Rattle.message.specs.Header.{is_request, action_of}
use Rattle.ring.specs.Ring.{allowed}
use Rattle.ring.specs.Numbers.{need}
use Rattle.requests.specs.declared.record.Record.{Record}
use Rattle.requests.specs.declared.planning.Plan.{Plan}
use Rattle.requests.specs.declared.asking.Ask.{Ask}
use Rattle.requests.specs.declared.asking.Heard.{Heard}
use Rattle.requests.specs.declared.state.State.{State}
use Rattle.requests.specs.Fence.{next_fence, first_last}
use Rattle.requests.specs.Table.{free_record, still_open, fence_twice, allowed_length, lowest_free, place_of, set_aside}
use Rattle.requests.specs.Calls.{Wall, Outcome, number_alone, fresh_number, open_record, is_reply, record_after, answer_of}

-- ---- what is asked, by value

-- of an opening: the number that refuses it already, 14 and then 27, and what the plan and the send go on with
unfoldable pub asks_request : ℕ → List ℕ → Ask
asks_request room m =
    record {
      opening = true;
      code = need (leb room 256) 14 (need (is_request m) 27 0);
      kind = 0;
      fence = 0;
      room = cond (leb room 256) room 0;
      header = get_or m 0 0;
      word = get_or m 1 0;
    }

unfoldable pub asks_reply : Heard → Ask
asks_reply h =
    record { opening = false; code = h.code; kind = h.kind; fence = h.fence; room = 0; header = 0; word = 0 }

-- ---- plans

-- a plan, carried out on a wall: the record is stored at its place (the table's length where nothing is to be stored)
unfoldable pub carried : Plan → Wall → Outcome
carried p w =
    record {
      answer = p.answer;
      wall = record { table = set w.table p.at p.stored; last = p.last; n = w.n };
    }

abbrev pub refused_plan : ℕ → ℕ → ℕ → Plan
refused_plan c n last = record { at = n; stored = free_record; answer = number_alone c; was = last; last = last }

-- the plan of an opening past 35, 2, 14 and 27: 26, then 28
unfoldable pub open_plan : List Record → State → ℕ → ℕ → Plan
open_plan t s room action =
    let fence = next_fence (still_open t) s.last in
    cond (ltb (lowest_free t) (length t))
    (cond (leb (set_aside t + room) (s.n - 1))
    (record {
      at = lowest_free t;
      stored = open_record fence action room;
      answer = record { code = 0; kind = 0; fence = fence; action = 0; count = 0 };
      was = s.last;
      last = fence;
    })
    (refused_plan 28 (length t) s.last))
    (refused_plan 26 (length t) s.last)

-- the plan of a reply past 35, 2 and what refused its message
unfoldable pub reply_plan : List Record → ℕ → ℕ → ℕ → Plan
reply_plan t last kind fence =
    cond (still_open t fence && is_reply kind)
    (record {
      at = place_of fence t;
      stored = record_after kind (get_or t (place_of fence t) free_record);
      answer = answer_of kind (get_or t (place_of fence t) free_record);
      was = last;
      last = last;
    })
    (refused_plan 27 (length t) last)

-- the plan of what is asked of a table t of n records. (t is those that were taken by value: all, where n is an allowed
-- number, and 35 looks no further.)
unfoldable pub plan_of : List Record → ℕ → State → Ask → Plan
plan_of t n s a =
    cond (allowed_length n && not (fence_twice t))
    (cond (allowed s.n)
    (cond (eqb a.code 0)
    (cond a.opening (open_plan t s a.room (action_of a.word)) (reply_plan t s.last a.kind a.fence))
    (refused_plan a.code n s.last))
    (refused_plan 2 n s.last))
    (refused_plan 35 n s.last)

-- a plan whose request the ring answered with c, of a table of n records
unfoldable pub sent_plan : ℕ → ℕ → Plan → Plan
sent_plan c n p = cond (eqb c 0) p (refused_plan c n p.was)

-- ---- the state's words

abbrev pub state_in : List ℕ → State
state_in words = record { last = get_or words 0 0; n = get_or words 1 0 }

-- the first word afterwards: the last fence where it is another now, else what lay there
unfoldable pub last_kept : ℕ → ℕ → ℕ → ℕ
last_kept was last word = cond (eqb was last) word last

-- making a table of so many records fresh, for a reply buffer of n: how many of them are freed, and the state
unfoldable pub freed : ℕ → ℕ → ℕ
freed records n = cond (eqb (fresh_number records n) 0) records 0

unfoldable pub fresh_state : ℕ → ℕ → State → State
fresh_state records n s = cond (eqb (fresh_number records n) 0) (record { last = first_last; n = n }) s
