-- `planning::plan_call` meets its contract: the words that are judged are the first n, and so is what is set aside. Assumes nothing.
use Prim.Native.Nat.{ℕ, ◌-◌, ◌≤◌}
use mathlib.Core.Path.{◌≡◌, sym, ap, ◌∙◌}
use mathlib.Core.Bool.{true, false}
use mathlib.Core.List.{List}
use native.Mathlib.Nat.{sub-zero}
use native.Mathlib.Omega.{arith}
use lib.ListN.{length, take}
use lib.Seq.{length-take-le}
use borrow.Author.Tests.{not-true, not-false}
use Rattle.ring.specs.Ring.{allowed}
use Rattle.requests.specs.declared.record.Record.{Record}
use Rattle.requests.specs.Words.{records, records_with}
use Rattle.requests.specs.Table.{fence_twice, allowed_length}
use Rattle.requests.proofs.Beside.{with_take, with_twice}
use Rattle.requests.proofs.Plans.{allowed-most, allowed_least, plan_unfit, plan_twice, plan_bad-n, plan_refused}
use Rattle.requests.proofs.Plans.{plan_opens, plan_replies}
use Rattle.requests.proofs.planning.plan_call.Goals as goal
use Rattle.requests.proofs.planning.plan_call.Lts.View as view
use Rattle.requests.proofs.planning.plan_call.Reads as reads
use Rattle.requests.proofs.planning.plan_call.Tie as tie
use Rattle.requests.proofs.planning.plan_call.Goals.{After-fence_twice, Else-fence_twice, Else-not-allowed, Else-not-allowed-2}

-- the parts that are lent, and the first records
lent : (n : ℕ) (words rooms : List ℕ)
    → records_with (take (n - 0) words) (take (n - 0) rooms) ≡ take n (records_with words rooms)
lent n words rooms = rw (sub-zero, with_take)

so_many : (n : ℕ) (words : List ℕ) → n ≤ length words → length (take (n - 0) words) ≡ n
so_many n words l = rw sub-zero (length-take-le n words l)

twice_lent : (n : ℕ) (words rooms : List ℕ)
    → fence_twice (take n (records_with words rooms)) ≡ fence_twice (records (take (n - 0) words))
twice_lent n words rooms = ap fence_twice (sym (lent n words rooms)) ∙ with_twice (take (n - 0) words) (take (n - 0) rooms)

is_allowed : (q : Else-not-allowed) → allowed_length q.args.n ≡ true
is_allowed q = sym q.allowed.ensures ∙ not-false _ q.if-not-allowed.false-raw

-- the records that are planned for
abbrev table : After-fence_twice → List Record
table q = let a = q.args in take a.n (records_with a.words.now a.rooms.now)

twice : (q : After-fence_twice) → fence_twice (table q) ≡ q.fence_twice.result
twice q =
    let a = q.args in
    twice_lent a.n a.words.now a.rooms.now ∙ sym q.fence_twice.ensures.value

-- past the tests of the table it is fit
fit : (q : Else-fence_twice) → allowed_length q.args.n ≡ true
fit q = sym q.allowed.ensures ∙ not-false _ q.if-not-allowed.false-raw

once : (q : Else-fence_twice) → let a = q.args in fence_twice (take a.n (records_with a.words.now a.rooms.now)) ≡ false
once q = twice (view.up-After-fence_twice tie.the-claims reads.Pre reads.Post tie.handed_clauses q.before.before) ∙ q.if-fence_twice.false

allowed-n : (q : Else-not-allowed-2) → allowed q.args.state.n ≡ true
allowed-n q = sym q.allowed-2.ensures ∙ not-false _ q.if-not-allowed-2.false-raw

pub returns-then-not-allowed : goal.returns-then-not-allowed
returns-then-not-allowed c =
    let e = sym c.allowed.ensures ∙ not-true _ c.if-not-allowed.true-raw in
    c.refuse.ensures ∙ sym (plan_unfit _ _ _ _ e)

pub returns-then-fence_twice : goal.returns-then-fence_twice
returns-then-fence_twice c =
    let q = c in
    let a = q.args in
    c.refuse-then-fence_twice.ensures ∙ sym (plan_twice (table (goal.at.returns-then-fence_twice c).After-fence_twice) a.state a.n a.ask (twice (goal.at.returns-then-fence_twice q).After-fence_twice ∙ c.if-fence_twice.true))

pub returns-then-not-allowed-2 : goal.returns-then-not-allowed-2
returns-then-not-allowed-2 c =
    let q = c in
    let a = q.args in
    let e = sym c.allowed-2.ensures ∙ not-true _ c.if-not-allowed-2.true-raw in
    c.refuse-then-not-allowed-2.ensures ∙ sym (plan_bad-n (table (goal.at.returns-then-not-allowed-2 c).After-fence_twice) a.state a.n a.ask (fit (goal.at.returns-then-not-allowed-2 q).Else-fence_twice) (once (goal.at.returns-then-not-allowed-2 q).Else-fence_twice) e)

pub returns-then-ask-ne0 : goal.returns-then-ask-ne0
returns-then-ask-ne0 c =
    let p = c in
    let q = p in
    let a = q.args in
    c.refuse-then-ask-ne0.ensures
    ∙ sym (plan_refused (table (goal.at.returns-then-ask-ne0 c).After-fence_twice) a.state a.n a.ask (fit (goal.at.returns-then-ask-ne0 q).Else-fence_twice) (once (goal.at.returns-then-ask-ne0 q).Else-fence_twice) (allowed-n (goal.at.returns-then-ask-ne0 p).Else-not-allowed-2) c.if-ask-ne0.true)

pub plan_open-requires : goal.plan_open-requires
plan_open-requires c =
    let p = c in
    let q = p in
    let a = q.args in
    let few = allowed-most a.n (fit (goal.at.plan_open-requires q).Else-fence_twice) in
    record {
      marked = q.fence_twice.ensures.marked q.if-fence_twice.false;
      words_len = (
        so_many a.n a.words.now (omega arith) ∙ sym (so_many a.n a.rooms.now (omega arith)),
        omega (arith, so_many a.n a.words.now (omega arith)),
        allowed_least _ (allowed-n (goal.at.plan_open-requires p).Else-not-allowed-2),
      );
    }

pub returns-then-ask : goal.returns-then-ask
returns-then-ask c =
    let o = c in
    let p = o in
    let q = p in
    let a = q.args in
    let words = a.words.now in
    let rooms = a.rooms.now in
    rw (lent a.n words rooms, c.action_of.ensures) at c.plan_open.ensures
    ∙ sym (plan_opens (table (goal.at.returns-then-ask c).After-fence_twice) a.state a.n a.ask (fit (goal.at.returns-then-ask q).Else-fence_twice) (once (goal.at.returns-then-ask q).Else-fence_twice) (allowed-n (goal.at.returns-then-ask p).Else-not-allowed-2) o.if-ask-ne0.false
    c.if-ask.true)

pub returns : goal.returns
returns c =
    let o = c in
    let p = o in
    let q = p in
    let a = q.args in
    rw (lent a.n a.words.now a.rooms.now) at c.plan_reply.ensures
    ∙ sym (plan_replies (table (goal.at.returns c).After-fence_twice) a.state a.n a.ask (fit (goal.at.returns q).Else-fence_twice) (once (goal.at.returns q).Else-fence_twice) (allowed-n (goal.at.returns p).Else-not-allowed-2) o.if-ask-ne0.false
    c.if-ask.false)

-- as many words are there
pub slice_bounds-table-end : goal.slice_bounds-table-end
slice_bounds-table-end c = let h = allowed-most c.args.n (is_allowed (goal.at.slice_bounds-table-end c).Else-not-allowed) in omega arith

pub slice_bounds-beside-end : goal.slice_bounds-beside-end
slice_bounds-beside-end c =
    let h = allowed-most c.args.n (fit (goal.at.slice_bounds-beside-end c).Else-fence_twice) in
    omega arith
