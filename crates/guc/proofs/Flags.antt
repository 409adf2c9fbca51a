-- Truncated or not as 0 or 1 is what a bool is as a number. Assumes nothing.
use mathlib.Core.Path.{◌≡◌, refl}
use mathlib.Core.Bool.{Bool, true, false}
use mir.Val.{bool_byte}
use Rattle.guc.specs.Parts.{flag}

pub flag_is : (t : Bool) → bool_byte t ≡ flag t
flag_is true = refl
flag_is false = refl
