-- `judging::next_fence` meets its contract: after so many tries the next fence is the first closed one of those that
-- are left. Assumes nothing.
use native.Mathlib.Omega.{arith}
use lib.ListN.{length-map}
use Rattle.requests.specs.Words.{record_of, records}
use Rattle.requests.proofs.OpenFences.{place_le, within_open, end-closed}
use Rattle.requests.proofs.Marks.{unmarked}
use Rattle.requests.proofs.Fences.{next-starts, next-found, next_passed, next-ended}
use Rattle.requests.proofs.judging.next_fence.Goals as goal

pub loop-tries-init : goal.loop-tries-init
loop-tries-init c = (omega arith, next-starts _ _)

pub returns-then-flags-low-eq0 : goal.returns-then-flags-low-eq0
returns-then-flags-low-eq0 c =
    let turn = c in
    let start = turn in
    next-found _ _ _ _ turn.loop-tries.invariant.1 turn.after-fence.ensures (omega arith)
    (unmarked _ start.args.flags.now _ start.requires c.if-flags-low-eq0.true)

pub returns-then-place_of-words : goal.returns-then-place_of-words
returns-then-place_of-words c =
    let turn = c in
    let at = c.place_of.ensures in
    next-found _ _ _ _ turn.loop-tries.invariant.1 turn.after-fence.ensures (omega arith)
    (end-closed _ _ (omega (arith, length-map turn.args.words.now record_of)))

pub loop-tries-preserved : goal.loop-tries-preserved
loop-tries-preserved c =
    let turn = c in
    let words = turn.args.words.now in
    let at = c.place_of.ensures in
    let l = place_le turn.after-fence.result (records words) in (
      omega arith,
      next_passed _ _ _ _ turn.loop-tries.invariant.1 turn.after-fence.ensures (omega arith)
          (within_open _ _ (omega (arith, length-map words record_of, c.if-place_of-words.false))),
    )

pub returns : goal.returns
returns c = next-ended _ _ _ _ c.loop-tries.invariant.1 (omega arith)
