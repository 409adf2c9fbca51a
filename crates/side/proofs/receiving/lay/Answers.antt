-- `receiving::lay` meets its contract: two dwords by value and the others from the words are the copy's. Assumes
-- nothing.
use Prim.Native.Nat.{◌+◌, ◌-◌}
use mathlib.Core.Path.{◌≡◌, ◌∙◌}
use native.Mathlib.Omega.{arith}
use lib.ListN.{length, take, drop, length-take, length-drop}
use Rattle.message.proofs.Slices.{to_end}
use Rattle.channel.proofs.Steps.{laid-copy}
use Rattle.side.specs.Words.{state_of}
use Rattle.side.proofs.InWords.{copy_at}
use Rattle.side.proofs.receiving.lay.Goals as goal

pub returns : goal.returns
unfolding state_of
returns c =
    let after-lay = c in
    let start = after-lay in
    let a = start.args in
    let q = start.requires in
    let w = a.w.now in
    let l = after-lay.lay_copy.ensures in
    let m : length (drop 4 w) ≡ 256 = simp length-drop (omega arith) in
    let o = rw (to_end, q.4 ∙ copy_at 0 w, q.5 ∙ copy_at 1 w) at l.0 in
    let z : 2 + length (take (a.len - 2) (drop 2 (drop 4 w))) ≡ a.len = simp (length-take, length-drop) (omega arith) in
    let f = laid-copy a.len (drop 4 w) a.out.now (omega arith) (omega arith) (omega arith) in
    (o ∙ f, rw (to_end, z) at l.1, l.2)
