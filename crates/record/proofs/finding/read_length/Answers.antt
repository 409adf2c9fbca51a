-- `finding::read_length` meets its contract: a test of the definition for each of the code. Assumes nothing.
use Prim.Native.Nat.{◌+◌, ◌-◌, ◌≤◌}
use mathlib.Core.Path.{◌≡◌, refl, sym, ap, ◌∙◌}
use mathlib.Core.Bool.{true, false}
use native.Mathlib.Omega.{arith}
use lib.ListN.{length, set, take, drop, length-set, length-drop}
use borrow.Rule.Slice.PartMut.{mid_of, mid_len}
use Rattle.record.specs.Numbers.{number_of}
use Rattle.record.specs.Runs.{is_length}
use Rattle.record.specs.Private.{torn, later, length_of, dwords_of}
use Rattle.record.proofs.Figures.{figure-not-0}
use Rattle.record.proofs.Forms.{there_within}
use Rattle.record.proofs.Judging.{length_bounds}
use Rattle.record.proofs.Judged.{torn_first}
use Rattle.message.proofs.Slices.{to_end}
use Rattle.record.proofs.Found as found
use Rattle.record.proofs.finding.read_length.Goals as goal
use Rattle.record.proofs.finding.read_length.Goals.{Else-not-is_length}

pub returns-in_err-l : goal.returns-in_err-l
returns-in_err-l c =
    let f = c.args.bytes.now in
    let n = c.in_err-l.ensures in
    let bad : (number_of f).fault ≡ 0 → ⊥ = λ e. figure-not-0 _ (ap (λ r. r.fault) n ∙ e) in
    found.torn-to _ _ _ _ _ _ _ _ (torn_first _ _ c.from_residual.ensures.1 ∙ ap (λ r. torn r.fault 0) n)
    (found.length_none f bad) bad (omega arith)

pub returns-then-not-is_length : goal.returns-then-not-is_length
returns-then-not-is_length c =
    let f = c.args.bytes.now in
    let n = c.in_ok-l.ensures in
    let no : is_length (number_of f).value ≡ false =
    sym (c.is_length.ensures ∙ ap (λ r. is_length r.value) n) ∙ c.if-not-is_length.true in
    found.torn-to _ _ _ _ _ _ _ _ (rw (c.from.ensures.0, c.from.ensures.1) refl)
    (found.length-wrong f (sym (ap (λ r. r.fault) n)) no) (λ e. omega (arith, e)) (omega arith)

-- the L is one
module _ (c : Else-not-is_length) where
  valid : is_length c.in_ok-l.l.value ≡ true
  valid = sym c.is_length.ensures ∙ c.if-not-is_length.false

  bounds : (1 ≤ c.in_ok-l.l.value) × (c.in_ok-l.l.value ≤ 256)
  bounds = length_bounds c.in_ok-l.l.value valid

  there : c.in_ok-l.l.size ≤ length c.args.bytes.now
  there = there_within c.args.bytes.now _ _ c.in_ok-l.ensures

pub slice_bounds-read_dwords-count : goal.slice_bounds-read_dwords-count
slice_bounds-read_dwords-count c = there_within c.args.bytes.now _ _ c.in_ok-l.ensures

pub slice_bounds-read_dwords-start : goal.slice_bounds-read_dwords-start
slice_bounds-read_dwords-start c = there_within c.args.bytes.now _ _ c.in_ok-l.ensures

pub slice_bounds-read_dwords-end-2 : goal.slice_bounds-read_dwords-end-2
slice_bounds-read_dwords-end-2 c =
    simp length-set (omega (arith, bounds (goal.at.slice_bounds-read_dwords-end-2 c).Else-not-is_length, c.requires))

pub read_dwords-r-requires : goal.read_dwords-r-requires
read_dwords-r-requires c =
    let b = bounds (goal.at.read_dwords-r-requires c).Else-not-is_length in
    let copy = c.args.copy.now in
    let v = c.in_ok-l.l.value in
    let part : length (mid_of 1 (1 + v - 1) (set copy 0 v)) ≡ 1 + v - 1 =
    mid_len 1 (1 + v) (set copy 0 v) (simp length-set (omega (arith, b.1, c.requires))) in
    rw part (record { in_bounds = omega (arith, b.0); copy_len_bound = omega (arith, b.1) })

pub returns : goal.returns
returns c =
    let ok = (goal.at.returns c).Else-not-is_length in
    let f = c.args.bytes.now in
    let n = c.in_ok-l.ensures in
    let good : (number_of f).fault ≡ 0 = sym (ap (λ r. r.fault) n) in
    let copy = c.args.copy.now in
    let v = c.in_ok-l.l.value in
    let s = c.in_ok-l.l.size in
    let b = bounds ok in
    let size = there ok in
    let value = ap (λ r. r.value) n in
    let bytes = ap (λ r. r.size) n in
    let r = c.read_dwords-r in
    let part : take (length f - s) (drop s f) ≡ drop s f = to_end s f in
    let rest : length (take (length f - s) (drop s f)) ≡ length f - s = ap length part ∙ length-drop s f in
    let wide : 257 ≤ length copy = c.requires in
    let mid : length (mid_of 1 (1 + v - 1) (set copy 0 v)) ≡ v =
    mid_len 1 (1 + v) (set copy 0 v) (simp length-set (omega (arith, b.1, wide))) ∙ omega arith in
    let by : length_of f ≡ later s (dwords_of v (drop s f)) =
    rw (value, bytes) (found.length-then f good (rw (← value) (valid ok))) in
    found.behind-to _ _ r.new.copy copy _ (length f) v (1 + v - 1) s _
    (omega (arith, b.1, wide))
    (omega (arith, rest, size)) r.ensures _ _ _ c.later.ensures (by ∙ rw (mid, part)) (rw (mid, part, value, bytes))
