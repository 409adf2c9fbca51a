-- `runs::lay_read` meets its contract: behind the two dwords that are stored lie the runs that are read. Assumes
-- nothing.
use Prim.Native.Nat.{◌+◌, ◌-◌, ◌%◌, ◌<◌}
use mathlib.Core.Path.{◌≡◌, ◌∙◌}
use native.Mathlib.Nat.{mod-lt}
use native.Mathlib.Omega.{arith}
use lib.ListN.{length, set, length-set, length-take, length-drop}
use borrow.Rule.Slice.PartMut.{same_len_mid}
use Rattle.runs.proofs.Offsets.{past_is}
use Rattle.runs.proofs.TwoRuns.{laid-behind}
use Rattle.runs.proofs.runs.lay_read.Goals as goal

pub bounds-out-1 : goal.bounds-out-1
bounds-out-1 c = simp length-set (omega arith)

pub load_runs-requires : goal.load_runs-requires
load_runs-requires c =
    let a = c.args in
    let n = length a.buf.now in
    let e = c.past-at.ensures.0 ∙ past_is n a.own 2 (omega arith) (omega arith) (omega arith) in
    let m : (a.own + 2) % n < n = mod-lt (a.own + 2) (omega arith) in
    (omega (arith, e), simp (length-take, length-drop, length-set) (omega arith))

pub shape_of-out : goal.shape_of-out
shape_of-out c =
    let a = c.args in
    let out = set (set a.out.now 0 a.header) 1 a.second in
    let l : length out ≡ length a.out.now = simp length-set in
    same_len_mid 2 (a.len - 2) out c.load_runs.new.dst c.load_runs.auto.dst ∙ l

pub returns : goal.returns
returns c =
    let a = c.args in
    let n = length a.buf.now in
    let e = c.past-at.ensures.0 ∙ past_is n a.own 2 (omega arith) (omega arith) (omega arith) in
    laid-behind a.out.now a.buf.now a.header a.second a.len a.own _ _
    (omega arith) (omega arith) (omega arith) (omega arith) e c.load_runs.ensures
