-- The age of a fence as the machine computes it: a difference below 65,536, and from 32,768 on less 65,536. Assumes
-- nothing.
use Prim.Native.Nat.{ℕ, suc, ◌-◌, ◌≤◌, ◌<◌}
use mathlib.Core.Path.{◌≡◌, ◌∙◌}
use native.Mathlib.Omega.{arith}
use lib.IntN.{pos, negsuc, ◌-ℤ◌}
use borrow.Author.Tests.{lt-ltb, le-ltb}
use mir.Syntax.{w32}
use mir.Val.{SFits, to_z, of_z}
use mir.ValLaws.{to_z_pos, to_z-of_z}
use Rattle.requests.specs.Fence.{signed}

module _ (d : ℕ) where
  pub sign_low : d < 32768 → to_z w32 d ≡ signed d
  unfolding signed
  sign_low h = to_z_pos w32 d (omega arith) ∙ rw (lt-ltb d 32768 h)

  module _ (l : d < 65536) where
    less : to_z w32 d -ℤ pos 65536 ≡ negsuc (65535 - d)
    less =
        let s : 65536 - suc d ≡ 65535 - d = omega arith in
        rw (to_z_pos w32 d (omega arith), lt-ltb d 65536 l, s)

    pub less_fits : SFits w32 (to_z w32 d -ℤ pos 65536)
    less_fits = rw less (record { sfits = omega arith })

    pub sign_high : 32768 ≤ d → to_z w32 (of_z w32 (to_z w32 d -ℤ pos 65536)) ≡ signed d
    unfolding signed
    sign_high h = to_z-of_z w32 (to_z w32 d -ℤ pos 65536) less_fits ∙ less ∙ rw (le-ltb d 32768 h)
