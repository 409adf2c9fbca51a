-- `reading::lay` meets its contract: after each turn the whole messages before the place where it stands are in front of
-- what was there. Assumes nothing.
use Prim.Native.Nat.{◌+◌, ◌-◌, ◌≤◌}
use mathlib.Core.Path.{◌≡◌, refl, sym, ap, ◌∙◌}
use native.Mathlib.Omega.{arith}
use lib.ListN.{length, take, drop, length-take, length-drop}
use lib.Seq.{length-take-le}
use borrow.Rule.Slice.PartMut.{same_len_mid}
use Rattle.record.specs.Files.{run_of}
use Rattle.record.specs.Private.{found, message_of, message_in}
use Rattle.message.proofs.Slices.{to_end}
use Rattle.slices.proofs.Fits.{copied-all}
use Rattle.record.proofs.Figures.{figure-not-0}
use Rattle.record.proofs.Slices.{blank-length}
use Rattle.record.proofs.Cursor as cursor
use Rattle.record.proofs.Cursor.{Cursor}
use Rattle.record.proofs.Lays as lays
use Rattle.record.proofs.Steps as steps
use Rattle.record.proofs.reading.lay.Goals as goal
use Rattle.record.proofs.reading.lay.Goals.{In-Ok}

pub loop-at-init : goal.loop-at-init
loop-at-init c =
    (cursor.cursor_start c.args.file.now, omega arith, omega arith, ap length c.no_entry-copy.ensures ∙ blank-length, refl, refl)

-- a whole message here
module _ (c : In-Ok) where
  here : found c.in-Ok.m.dwords c.in-Ok.m.size ≡ message_of (drop c.loop-at.at c.args.file.now)
  here = c.in-Ok.ensures.answer ∙ ap message_of (to_end c.loop-at.at c.args.file.now)

  next : Cursor c.args.file.now (c.loop-at.at + c.in-Ok.m.size) (c.loop-at.filled + c.in-Ok.m.dwords)
  next = steps.step_cursor _ _ _ c.loop-at.invariant.0 _ _ here

  within : c.loop-at.at + c.in-Ok.m.size ≤ length c.args.file.now
  within = cursor.cursor_within _ _ _ next

  size : (3 ≤ c.in-Ok.m.dwords) × (c.in-Ok.m.dwords ≤ 258)
  size = steps.step_size _ _ _ c.loop-at.invariant.0 _ _ here

pub returns-in-Err : goal.returns-in-Err
returns-in-Err c =
    let l = c.loop-at in
    let f = c.args.file.now in
    let out₀ = c.args.out.now in
    let torn = c.in-Err.ensures.answer ∙ ap message_of (to_end l.at f) in
    lays.laid_so_far _ l.out out₀ f l.filled refl (cursor.whole_least f l.at l.filled l.invariant.0)
    l.invariant.0.there l.invariant.5
    (λ h. steps.torn_answer f l.at l.filled l.invariant.0 _ _ (figure-not-0 _) torn (omega arith) (length out₀) h)

pub overflow_add-end : goal.overflow_add-end
overflow_add-end c =
    omega (arith, size (goal.at.overflow_add-end c).In-Ok, c.loop-at.invariant.2)

pub returns-then-out-end : goal.returns-then-out-end
returns-then-out-end c =
    let ok = (goal.at.returns-then-out-end c).In-Ok in
    let l = c.loop-at in
    let f = c.args.file.now in
    let least = cursor.whole_least f _ _ (next ok) in
    lays.laid_so_far _ l.out c.args.out.now f l.filled refl (cursor.whole_least f l.at l.filled l.invariant.0)
    l.invariant.0.there l.invariant.5 (λ h. absurd (omega (arith, least, c.if-out-end.true, h, l.invariant.4)))

pub slice_bounds-copy-end-in-Ok : goal.slice_bounds-copy-end-in-Ok
slice_bounds-copy-end-in-Ok c =
    let s = size (goal.at.slice_bounds-copy-end-in-Ok c).In-Ok in
    omega (arith, s, c.read_message.auto.copy, c.loop-at.invariant.3)

pub loop-at-smaller : goal.loop-at-smaller
loop-at-smaller c =
    let some = steps.step_bytes _ _ _ c.loop-at.invariant.0 _ _ (here (goal.at.loop-at-smaller c).In-Ok) in
    omega (arith, some)

pub loop-at-preserved : goal.loop-at-preserved
loop-at-preserved c =
    let ok = (goal.at.loop-at-preserved c).In-Ok in
    let l = c.loop-at in
    let f = c.args.file.now in
    let out₀ = c.args.out.now in
    let r = c.read_message in
    let d = c.in-Ok.m.dwords in
    let part : take (length f - l.at) (drop l.at f) ≡ drop l.at f = to_end l.at f in
    let fits : l.filled + d ≤ length l.out = c.if-out-end.false in
    let there : l.filled + d ≤ length (run_of f) = (next ok).there in
    let xs : message_in (drop l.at f) ≡ take d (drop l.filled (run_of f)) =
    steps.step_dwords f l.at l.filled l.invariant.0 _ _ (here ok) in
    let count : length (message_in (drop l.at f)) ≡ d =
    ap length xs ∙ length-take-le d (drop l.filled (run_of f)) (rw (length-drop l.filled (run_of f)) (omega (arith, there))) in
    let same : d - 0 ≡ d = omega arith in
    let entry : take (d - 0) r.new.copy ≡ message_in (drop l.at f) =
    lays.entry-taken r.new.copy l.copy (message_in (drop l.at f)) (d - 0)
    (c.in-Ok.ensures.dwords refl ∙ rw part) (count ∙ sym same) in
    let room : length (take (l.filled + d - l.filled) (drop l.filled l.out)) ≡ d =
    simp (length-take, length-drop) (omega (arith, fits)) in
    let copied = c.copy.ensures ∙ (copied-all _ _ (ap length entry ∙ (count ∙ sym room)) ∙ (entry ∙ xs)) in
    let span : d ≡ l.filled + d - l.filled = omega arith in
    let last = c.copy.new.dst in
    let laid =
    lays.laid_more l.out out₀ (run_of f) last l.filled d (l.filled + d - l.filled) l.invariant.5 there copied span fits in
    let size = same_len_mid l.filled (l.filled + d - l.filled) l.out last c.copy.auto.dst in (
      next ok,
      within ok,
      rw size fits,
      r.auto.copy ∙ l.invariant.3,
      size ∙ l.invariant.4,
      laid,
    )

pub returns : goal.returns
returns c =
    let l = c.loop-at in
    let f = c.args.file.now in
    let out₀ = c.args.out.now in
    lays.laid_so_far _ l.out out₀ f l.filled refl (cursor.whole_least f l.at l.filled l.invariant.0)
    l.invariant.0.there l.invariant.5
    (λ h. steps.end_answer f l.at l.filled l.invariant.0 (omega arith) (length out₀) h)
