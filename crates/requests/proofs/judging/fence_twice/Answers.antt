-- `judging::fence_twice` meets its contract: of the words passed no fence is open twice, and each open one has its
-- flag. Assumes nothing.
use mathlib.Core.Path.{◌≡◌, sym, ◌∙◌}
use mathlib.Core.Bool.{false}
use mathlib.Core.List.{[], ◌∷◌, ◌++◌}
use native.Mathlib.Omega.{arith}
use lib.ListN.{get_or, take}
use lib.Seq.{take_all}
use Rattle.ring.proofs.Chains.{true_false}
use Rattle.requests.specs.Table.{still_open}
use Rattle.requests.specs.Words.{record_of, records}
use Rattle.requests.proofs.Walks.{more, parted, before_open, before-closed}
use Rattle.requests.proofs.OpenFences.{twice-at}
use Rattle.requests.proofs.Marks.{Passed, unmarked, passed_none, passed_free, passed_open}
use Rattle.requests.proofs.judging.fence_twice.Goals as goal
use Rattle.requests.proofs.judging.fence_twice.Goals.{then-is_open, then-flags-low-ne0+else-place_of-i, else-flags-low-ne0, else-is_open}

pub loop-i-init : goal.loop-i-init
loop-i-init c = (omega arith, passed_none _ c.requires)

pub returns-then-place_of-i : goal.returns-then-place_of-i
returns-then-place_of-i c =
    let asked = c in
    let at = asked in
    let words = at.args.words.now in
    let i = at.loop-i.i in
    let o = sym asked.is_open.ensures ∙ c.if-is_open.true in
    let f = c.fence_of-fence.ensures in
    let b = rw f at (before_open _ words i (omega arith) c.place_of.ensures c.if-place_of-i.true) in
    record { value = sym (rw (parted words i (omega arith)) (twice-at _ (record_of (get_or words i 0)) _ o b)); marked = λ e f q z. true_false e }

pub loop-i-preserved : goal.loop-i-preserved
loop-i-preserved c =
    let words = c.args.words.now in
    let s = records (take c.loop-i.i words) in
    let r = record_of (get_or words c.loop-i.i 0) in
    let p = c.loop-i.invariant.1 in
    -- an open record that is passed: its fence is not open before it
    let passed : Passed (s ++ r ∷ []) c.if-is_open.flags =
    elim c.if-is_open.branch [
      | then-is_open w ↦
          let fresh : still_open s r.fence ≡ false =
          rw (sym w.fence_of-fence.ensures)
          (elim w.if-flags-low-ne0.branch [
            | then-flags-low-ne0+else-place_of-i v ↦ before-closed _ words c.loop-i.i (omega arith) v.place_of.ensures v.if-place_of-i.false
            | else-flags-low-ne0 v ↦ unmarked _ c.loop-i.flags _ p.marked v.if-flags-low-ne0.false
          ]) in
          rw (w.flags-is, w.fence_of-fence.ensures) (passed_open s r c.loop-i.flags p fresh)
      | else-is_open w ↦ rw w.flags-is (passed_free s r c.loop-i.flags p (sym c.is_open.ensures ∙ w.if-is_open.false))
    ] in
    (omega arith, rw (more words c.loop-i.i (omega arith)) passed)

pub returns : goal.returns
returns c =
    let words = c.args.words.now in
    let e : take c.loop-i.i words ≡ words = take_all c.loop-i.i words (omega arith) in
    let p : Passed (records words) c.loop-i.flags = rw e at c.loop-i.invariant.1 in
    record { value = sym p.once; marked = λ z. p.marked }
