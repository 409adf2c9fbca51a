-- `sending::send_planned` meets its contract: where the plan is a refusal nothing is sent, and where the ring refuses the
-- plan is that refusal. Assumes nothing.
use Prim.Native.Nat.{ℕ}
use mathlib.Core.Path.{◌≡◌, sym, ap, ◌∙◌}
use mathlib.Core.List.{[]}
use borrow.Author.Tests.{ne_eqb, eq-eqb}
use Rattle.side.specs.Words.{in_words}
use Rattle.requests.specs.declared.planning.Plan.{Plan}
use Rattle.requests.specs.Plan.{refused_plan, sent_plan}
use Rattle.wall.specs.Private.{planned_send}
use Rattle.wall.proofs.sending.send_planned.Goals as goal
use Rattle.wall.proofs.sending.send_planned.Goals.{After-with_fence-header}

passed : (w : After-with_fence-header) → w.args.p.answer.code ≡ 0
passed w = w.if-p-ne0.false

pub returns-then-p-ne0 : goal.returns-then-p-ne0
unfolding planned_send
returns-then-p-ne0 c = let z = ne_eqb _ 0 c.if-p-ne0.true in (simp z, simp z)

pub returns-then-code-ne0 : goal.returns-then-code-ne0
unfolding planned_send sent_plan
returns-then-code-ne0 c =
    let q = c in
    let w = q in
    let l = q.send_as-sent.new in
    let a = w.args in
    let z = eq-eqb a.p.answer.code 0 (passed (goal.at.returns-then-code-ne0 w).After-with_fence-header) in
    let code = ap (λ (r : Plan). r.answer.code) c.refuse.ensures in
    let no = rw (sym code) at (ne_eqb q.number_of-code.result 0 c.if-code-ne0.true) in (
      ap (λ (k : ℕ). in_words k 0 l.w l.desc l.buf []) (code ∙ q.number_of-code.ensures) ∙ (rw w.with_fence-header.ensures at q.send_as-sent.ensures) ∙ sym (rw z),
      sym (rw (z, no) (ap (λ (k : ℕ). refused_plan k a.n a.p.was) code ∙ sym c.refuse.ensures)),
    )

pub returns : goal.returns
unfolding planned_send sent_plan
returns c =
    let q = c in
    let w = q in
    let l = q.send_as-sent.new in
    let a = w.args in
    let z = eq-eqb a.p.answer.code 0 (passed (goal.at.returns w).After-with_fence-header) in (
      ap (λ (k : ℕ). in_words k 0 l.w l.desc l.buf []) (passed (goal.at.returns w).After-with_fence-header ∙ sym c.if-code-ne0.false ∙ q.number_of-code.ensures)
          ∙ (rw w.with_fence-header.ensures at q.send_as-sent.ensures) ∙ sym (rw z),
      sym (rw z),
    )
