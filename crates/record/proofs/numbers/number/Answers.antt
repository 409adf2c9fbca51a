-- `numbers::number` meets its contract: after some turns the number is that of the groups from here on, with those that
-- were read carried. Assumes nothing.
use Prim.Native.Nat.{◌+◌, ◌-◌, ◌*◌, ◌≤◌}
use mathlib.Core.Path.{◌≡◌, refl, sym, ap, ◌∙◌}
use native.Mathlib.Omega.{arith}
use borrow.Author.Tests.{eqb-true, eqb-false}
use lib.ListN.{length, get_or, drop}
use Rattle.record.specs.Numbers.{form_of}
use Rattle.record.specs.Private.{carried}
use Rattle.record.proofs.Groups as groups
use Rattle.record.proofs.numbers.number.Goals as goal

pub returns-then-is_empty : goal.returns-then-is_empty
returns-then-is_empty c =
    let f = c.args.bytes.now in
    let none : length f ≡ 0 = eqb-true (length f) 0 (sym c.if-is_empty.ensures) in
    sym (groups.number-none f none)

pub returns-then-first-lt128 : goal.returns-then-first-lt128
returns-then-first-lt128 c =
    let f = c.args.bytes.now in
    let some : length f ≡ 0 → ⊥ = eqb-false (length f) 0 (sym c.if-is_empty.ensures) in
    rw c.from.ensures (sym (groups.one_group f (omega arith) c.if-first-lt128.true))

pub loop-size-init : goal.loop-size-init
loop-size-init c =
    let f = c.args.bytes.now in
    let some : length f ≡ 0 → ⊥ = eqb-false (length f) 0 (sym c.if-is_empty.ensures) in
    let there : 1 ≤ length f = omega arith in
    let next = groups.next_group f 0 1 0 (omega arith) (omega arith) (omega arith) (omega arith) in
    let v : 0 + 1 * (get_or f 0 0 - 128) ≡ get_or f 0 0 - 128 = omega arith in (
      there,
      omega arith,
      refl,
      omega (arith, c.from-value.ensures),
      groups.number-first f there ∙ rw c.from-value.ensures (rw v at next),
    )

pub returns-then-bytes-size : goal.returns-then-bytes-size
returns-then-bytes-size c =
    let l = c.loop-size in
    sym (l.invariant.4 ∙ groups.no_group _ l.value l.weight l.size _ (omega arith))

pub returns-then-group-lt128 : goal.returns-then-group-lt128
returns-then-group-lt128 c =
    let l = c.loop-size in
    c.ended.ensures
    ∙ sym (l.invariant.4 ∙ groups.last_group _ l.value l.weight l.size (omega arith) (omega arith) (omega arith))

pub loop-size-preserved : goal.loop-size-preserved
loop-size-preserved c =
    let l = c.loop-size in
    let f = c.args.bytes.now in
    let g = c.shared_slice_known-in-loop-size-1.given l.size in
    let b = groups.holds_group l.size l.value (get_or f l.size 0 - 128) (omega arith) (rw (← l.invariant.2) l.invariant.3) (omega (arith, g)) in
    let next = groups.next_group f l.value l.weight l.size (omega arith) (omega arith) (omega arith) (omega (arith, g)) in (
      omega arith,
      omega arith,
      rw l.invariant.2 b.2,
      rw (l.invariant.2, c.from-in-loop-size.ensures) b.0,
      l.invariant.4 ∙ rw c.from-in-loop-size.ensures next,
    )

pub returns-then-bytes-le4 : goal.returns-then-bytes-le4
returns-then-bytes-le4 c =
    let l = c.loop-size in
    sym (l.invariant.4 ∙ groups.no_group _ l.value l.weight l.size _ (omega arith))

pub returns-then-group-ge16 : goal.returns-then-group-ge16
returns-then-group-ge16 c =
    let l = c.loop-size in
    let f = c.args.bytes.now in
    let four : l.size ≡ 4 = omega arith in
    let fifth = l.invariant.4 ∙ ap (λ s. carried l.value l.weight s (form_of (4 - s) (drop s f))) four in
    sym (fifth ∙ groups.wide_group f l.value l.weight 4 (omega arith) (omega arith))

pub returns : goal.returns
returns c =
    let l = c.loop-size in
    let f = c.args.bytes.now in
    let four : l.size ≡ 4 = omega arith in
    let fifth = l.invariant.4 ∙ ap (λ s. carried l.value l.weight s (form_of (4 - s) (drop s f))) four in
    c.ended-2.ensures ∙ sym (fifth ∙ groups.fifth_group f l.value l.weight 4 (omega arith) (omega arith))
