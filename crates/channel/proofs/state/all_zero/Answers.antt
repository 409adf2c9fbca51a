-- `state::all_zero` meets its contract: the dwords are four parts and a few more. Assumes nothing.
use Prim.Native.Nat.{◌/◌}
use lib.ListN.{length}
use Rattle.channel.proofs.Zeros.{zero_slices}
use Rattle.channel.proofs.state.all_zero.Goals as goal

pub returns : goal.returns
returns c =
    let after-parts = c in
    let after-back = after-parts in
    let s = after-back.args.s.now in
    rw (after-parts.parts_zero.ensures, c.rest_zero.ensures) (zero_slices (length s / 8) s)
