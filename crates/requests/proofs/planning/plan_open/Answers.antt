-- `planning::plan_open` meets its contract: its number is 26 where no record is free, else 28 where what is set aside with its
-- own exceeds N - 1. Assumes nothing.
use Prim.Native.Nat.{ℕ, ◌+◌, ◌-◌}
use mathlib.Core.Path.{◌≡◌, sym, ap, ◌∙◌}
use mathlib.Core.Bool.{Bool}
use mathlib.Core.List.{List}
use lib.Dec.{leb, ltb}
use Rattle.ring.specs.Numbers.{need}
use Rattle.requests.specs.declared.record.Record.{Record}
use Rattle.requests.specs.declared.planning.Plan.{Plan}
use Rattle.requests.specs.Fence.{next_fence}
use Rattle.requests.specs.Table.{still_open, lowest_free}
use Rattle.requests.specs.Words.{records, records_with}
use Rattle.requests.specs.Calls.{open_record}
use Rattle.requests.specs.Plan.{refused_plan}
use Rattle.requests.proofs.Beside.{with_length, with_free, with_open}
use Rattle.requests.proofs.Plans.{open_code, plan_unopened, plan_free}
use Rattle.requests.proofs.planning.plan_open.Goals as goal
use Rattle.requests.proofs.planning.plan_open.Goals.{After-open_number-code}

abbrev table : After-open_number-code → List Record
table q = records_with q.args.words.now q.args.rooms.now

-- the place is the lowest free record's
place : (q : After-open_number-code) → q.lowest_free-at.result ≡ lowest_free (table q)
place q =
    let a = q.args in
    q.lowest_free-at.ensures ∙ sym (with_free a.words.now a.rooms.now)

number : (q : After-open_number-code) → q.open_number-code.result ≡ open_code (table q) q.args.state q.args.room q.args.action
number q =
    let a = q.args in
    let n = with_length a.words.now a.rooms.now in
    let sum = q.set_aside.ensures.0 in
    q.open_number-code.ensures
    ∙ (λ i. need (ltb (place q i) (sym n i)) 26 (need (leb (sum i + a.room) (a.state.n - 1)) 28 0))

pub returns-then-code-ne0 : goal.returns-then-code-ne0
returns-then-code-ne0 c =
    let q = c in
    let a = q.args in
    let n = with_length a.words.now a.rooms.now in
    let no : open_code (table (goal.at.returns-then-code-ne0 q).After-open_number-code) a.state a.room a.action ≡ 0 → ⊥ = λ z. c.if-code-ne0.true (number (goal.at.returns-then-code-ne0 q).After-open_number-code ∙ z) in
    c.refuse.ensures ∙ (λ i. refused_plan (number (goal.at.returns-then-code-ne0 q).After-open_number-code i) (sym n i) a.state.last)
    ∙ sym (plan_unopened (table (goal.at.returns-then-code-ne0 q).After-open_number-code) a.state a.room a.action no)

pub returns : goal.returns
returns c =
    let q = c in
    let a = q.args in
    let words = a.words.now in
    let same : still_open (table (goal.at.returns q).After-open_number-code) ≡ still_open (records words) = λ i f. with_open f words a.rooms.now i in
    let fence = c.next_fence-fence.ensures ∙ ap (λ (o : ℕ → Bool). next_fence o a.state.last) (sym same) in
    let plan : ℕ → ℕ → Plan =
    λ at f.
    record {
      at = at;
      stored = open_record f a.action a.room;
      answer = record { code = 0; kind = 0; fence = f; action = 0; count = 0 };
      was = a.state.last;
      last = f;
    } in
    (λ i. plan (place (goal.at.returns q).After-open_number-code i) (fence i))
    ∙ sym (plan_free (table (goal.at.returns q).After-open_number-code) a.state a.room a.action (sym (number (goal.at.returns q).After-open_number-code) ∙ c.if-code-ne0.false))
