-- `reading::count_dwords` meets its contract: it stands between two messages after each turn. Assumes nothing.
use Prim.Native.Nat.{◌+◌, ◌≤◌}
use mathlib.Core.Path.{◌≡◌, sym, ap, ◌∙◌}
use native.Mathlib.Omega.{arith}
use lib.ListN.{length, drop}
use Rattle.record.specs.Private.{found, message_of}
use Rattle.message.proofs.Slices.{to_end}
use Rattle.record.proofs.Figures.{figure-not-0}
use Rattle.record.proofs.Slices.{blank-length}
use Rattle.record.proofs.Cursor as cursor
use Rattle.record.proofs.Cursor.{Cursor}
use Rattle.record.proofs.Steps as steps
use Rattle.record.proofs.reading.count_dwords.Goals as goal
use Rattle.record.proofs.reading.count_dwords.Goals.{In-Ok}

pub loop-at-init : goal.loop-at-init
loop-at-init c =
    (cursor.cursor_start c.args.file.now, omega arith, omega arith, ap length c.no_entry-copy.ensures ∙ blank-length)

-- a whole message here
module _ (c : In-Ok) where
  here : found c.in-Ok.m.dwords c.in-Ok.m.size ≡ message_of (drop c.loop-at.at c.args.file.now)
  here = c.in-Ok.ensures.answer ∙ ap message_of (to_end c.loop-at.at c.args.file.now)

  next : Cursor c.args.file.now (c.loop-at.at + c.in-Ok.m.size) (c.loop-at.dwords + c.in-Ok.m.dwords)
  next = steps.step_cursor _ _ _ c.loop-at.invariant.0 _ _ here

  within : (c.loop-at.at + c.in-Ok.m.size ≤ length c.args.file.now) × (c.loop-at.dwords + c.in-Ok.m.dwords ≤ length c.args.file.now)
  within = (cursor.cursor_within _ _ _ next, cursor.dwords-within _ _ _ next)

pub returns-in-Err : goal.returns-in-Err
returns-in-Err c =
    let l = c.loop-at in
    let f = c.args.file.now in
    let torn = c.in-Err.ensures.answer ∙ ap message_of (to_end l.at f) in
    sym (steps.torn_whole f l.at l.dwords l.invariant.0 _ _ (figure-not-0 _) torn (omega arith))

pub overflow_add-dwords : goal.overflow_add-dwords
overflow_add-dwords c = omega (arith, within (goal.at.overflow_add-dwords c).In-Ok)

pub loop-at-smaller : goal.loop-at-smaller
loop-at-smaller c =
    let some = steps.step_bytes _ _ _ c.loop-at.invariant.0 _ _ (here (goal.at.loop-at-smaller c).In-Ok) in
    omega (arith, some)

pub loop-at-preserved : goal.loop-at-preserved
loop-at-preserved c =
    let ok = (goal.at.loop-at-preserved c).In-Ok in
    let w = within ok in
    (next ok, w.0, w.1, c.read_message.auto.copy ∙ c.loop-at.invariant.3)

pub returns : goal.returns
returns c =
    let l = c.loop-at in
    sym (cursor.end_whole c.args.file.now l.at l.dwords l.invariant.0 (omega arith))
