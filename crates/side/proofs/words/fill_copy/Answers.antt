-- `words::fill_copy` meets its contract: the message is laid at the front of the copy. Assumes nothing.
use Prim.Native.Nat.{◌-◌}
use mathlib.Core.List.{◌∷◌}
use native.Mathlib.Omega.{arith}
use lib.ListN.{length, length-take, length-drop}
use borrow.Rule.Slice.PartMut.{mid_of}
use Rattle.runs.proofs.Straight.{laid-there}
use Rattle.side.proofs.InWords.{put_copy}
use Rattle.side.proofs.words.fill_copy.Goals as goal

pub returns : goal.returns
returns c =
    let a = c.args in
    let w = a.w.now in
    let m = a.header ∷ a.word ∷ a.rest.now in
    let there = laid-there m (mid_of 4 (length w - 4) w) (simp (length-take, length-drop) (omega arith)) in
    rw (c.lay.ensures, there) (put_copy m w (omega arith))
