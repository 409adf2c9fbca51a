-- `words::load` meets its contract: an idle copy is zeros, so what the message leaves of it is. Assumes nothing.
use Prim.Native.Nat.{◌+◌}
use mathlib.Core.Path.{◌≡◌}
use mathlib.Core.List.{◌∷◌}
use lib.ListN.{length}
use native.Mathlib.Omega.{arith}
use Rattle.side.proofs.InWords.{filled}
use Rattle.side.proofs.words.load.Goals as goal

pub returns : goal.returns
returns c =
    let a = c.args in
    let q = c.requires in
    let m = a.header ∷ a.word ∷ a.rest.now in
    let e : 2 + length a.rest.now ≡ length m = omega arith in
    rw (c.fill_copy.ensures, e) (filled m a.w.now q.0 q.2 q.3)
