-- `receiving::copy_left` meets its contract: the places of what is left are filled from the ring. Assumes nothing.
use Prim.Native.Nat.{◌+◌, ◌-◌}
use mathlib.Core.Path.{◌≡◌, ◌∙◌}
use native.Mathlib.Omega.{arith}
use lib.ListN.{length, length-take, length-drop}
use borrow.Rule.Slice.PartMut.{mid_of}
use Rattle.runs.proofs.Ring.{window-length}
use Rattle.runs.proofs.TwoRuns.{put-run}
use Rattle.side.proofs.Left.{filled_past}
use Rattle.side.proofs.receiving.copy_left.Goals as goal

pub returns : goal.returns
returns c =
    let a = c.args in
    let w = a.w.now in
    let b = a.buf.now in
    let k = 4 + a.len - (4 + a.moved) in
    let places = mid_of (4 + a.moved) k w in
    let l : length places ≡ a.len - a.moved = simp (length-take, length-drop) (omega arith) in
    let e = rw c.past.ensures.0 at c.load_dwords.ensures in
    let f = e ∙ filled_past b a.own a.moved places (omega arith) (omega arith) (omega arith) (omega arith) in
    rw (f, l) (put-run w (4 + a.moved) k _ (window-length b (length b) (a.own + a.moved) (a.len - a.moved) ∙ omega arith))
