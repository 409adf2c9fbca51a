-- Copies that fit. Assumes nothing.
use Rattle.std.specs.Prelude.{ℕ, ◌≡◌, ◌≤◌, cond, List, [], ◌++◌, length, drop, leb}
use Rattle.std.proofs.Common.{arith, rules, refl}
use Rattle.std.proofs.lemmas.Bool.{le-leb}
use Rattle.std.proofs.lemmas.Grind.{common_steps}
use Rattle.slices.specs.Copied.{copied}

pub copied-fits : {A : Type 0} (xs out : List A) → length xs ≤ length out → copied xs out ≡ xs ++ drop (length xs) out
copied-fits xs out h = rw (le-leb (length xs) (length out) h) refl

pub copied-all : {A : Type 0} (xs out : List A) → length xs ≡ length out → copied xs out ≡ xs
copied-all xs out h = rw (copied-fits xs out (omega arith)) (grind (arith, common_steps))
