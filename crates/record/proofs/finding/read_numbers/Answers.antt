-- `finding::read_numbers` meets its contract: after some turns the places of the copy so far are in front of the numbers
-- from here on. Assumes nothing.
use mathlib.Core.Path.{◌≡◌, refl, sym, ap, ◌∙◌}
use native.Mathlib.Omega.{arith}
use lib.ListN.{length, take, drop, length-set}
use Rattle.record.specs.Faults.{figure}
use Rattle.record.specs.Numbers.{number_of}
use Rattle.record.specs.Private.{numbers_of, onto, stop}
use Rattle.message.proofs.Slices.{to_end}
use Rattle.record.proofs.Figures.{figure-not-0}
use Rattle.record.proofs.Found.{one-number_more, no_number_more, numbers-first, numbers-end, numbers-all, next-within}
use Rattle.record.proofs.finding.read_numbers.Goals as goal

pub loop-place-init : goal.loop-place-init
loop-place-init c = (refl, omega arith, numbers-first c.args.bytes.now _)

pub returns-in-Err : goal.returns-in-Err
returns-in-Err c =
    let l = c.loop-place in
    let f = c.args.bytes.now in
    let copy = c.args.copy.now in
    let what = figure c.in-Err.fault in
    let bad : what ≡ 0 → ⊥ = figure-not-0 c.in-Err.fault in
    let same : what ≡ (number_of (drop l.at f)).fault =
    ap (λ r. r.fault) (c.in-Err.ensures ∙ ap number_of (to_end l.at f)) in
    let all : numbers_of (length copy) f ≡ onto (take l.place-index l.copy) l.at (stop what) =
    l.invariant.2
    ∙ (no_number_more f l.copy (length copy) l.place-index l.at (omega arith) (λ e. bad (same ∙ e))
    ∙ ap (λ k. onto (take l.place-index l.copy) l.at (stop k)) (sym same)) in
    numbers-end l.copy copy f l.place-index l.at l.invariant.1 _ what bad all

pub overflow_add-at : goal.overflow_add-at
overflow_add-at c =
    let l = c.loop-place in
    let f = c.args.bytes.now in
    let n = c.in-Ok.ensures ∙ ap number_of (to_end l.at f) in
    omega (arith, next-within f l.at l.invariant.1 _ n refl)

pub loop-place-preserved : goal.loop-place-preserved
loop-place-preserved c =
    let l = c.loop-place in
    let f = c.args.bytes.now in
    let n = c.in-Ok.ensures ∙ ap number_of (to_end l.at f) in
    let good = sym (ap (λ r. r.fault) n) in
    let value = ap (λ r. r.value) n in
    let size = ap (λ r. r.size) n in
    let more = one-number_more f l.copy (length c.args.copy.now) l.place-index l.at (omega arith) good (omega arith) in (
      simp length-set l.invariant.0,
      omega (arith, next-within f l.at l.invariant.1 _ n refl),
      l.invariant.2 ∙ rw (value, size) more,
    )

pub returns : goal.returns
returns c =
    let l = c.loop-place in
    numbers-all l.copy c.args.copy.now c.args.bytes.now l.place-index l.at l.invariant.1 l.invariant.0 (omega arith) l.invariant.2
