-- What is wrong has a figure above 0, which stands for nothing wrong. Assumes nothing.
use mathlib.Core.Path.{◌≡◌}
use native.Mathlib.Omega.{arith}
use lib.Dec.{eqb}
use mathlib.Core.Bool.{false}
use borrow.Author.Tests.{ne_eqb}
use Rattle.record.specs.Faults.{figure}
use Rattle.record.specs.declared.fault.Fault.{Fault}
use Rattle.record.specs.declared.fault.Fault.TheVariants.{Unfinished, Missing, TooLong, TooWide, BadDirection, BadLength, BadHeader}

pub figure-not-0 : (f : Fault) → figure f ≡ 0 → ⊥
figure-not-0 Unfinished e = omega (arith, e)
figure-not-0 Missing e = omega (arith, e)
figure-not-0 TooLong e = omega (arith, e)
figure-not-0 TooWide e = omega (arith, e)
figure-not-0 BadDirection e = omega (arith, e)
figure-not-0 BadLength e = omega (arith, e)
figure-not-0 BadHeader e = omega (arith, e)

pub figure-eqb : (f : Fault) → eqb (figure f) 0 ≡ false
figure-eqb f = ne_eqb (figure f) 0 (figure-not-0 f)
