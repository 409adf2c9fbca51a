-- `name::key_of` meets its contract. Assumes nothing.
use mathlib.Core.Path.{refl, ◌∙◌}
use borrow.Author.Tests.{le-leb, lt-leb}
use Rattle.firmware.specs.Cpd
use Rattle.firmware.proofs.Names.{sought-key}
use borrow.Author.Rules.{rules}
use Rattle.firmware.proofs.name.key_of.Goals as goal
use Rattle.firmware.proofs.name.key_of.Goals.{then-n-lt1-via-then-n-lt1, then-n-lt1-via-else-n-lt1+then-n-gt-NAME_BYTES}

pub returns-then-n-lt1 : goal.returns-then-n-lt1
unfolding Cpd.is_name
returns-then-n-lt1 c =
    elim c.then-n-lt1.branch [
      | then-n-lt1-via-then-n-lt1 w ↦ (simp (lt-leb _ _ w.if-n-lt1.true), refl)
      | then-n-lt1-via-else-n-lt1+then-n-gt-NAME_BYTES w ↦
          (simp (le-leb _ _ w.if-n-lt1.false, lt-leb _ _ w.if-n-gt-NAME_BYTES.true), refl)
    ]

pub returns-then-not-has_no_zero : goal.returns-then-not-has_no_zero
returns-then-not-has_no_zero c =
    let z = c.has_no_zero.ensures in (
      sought-key _ _ _ c.padded-key.ensures (search rules) z.0 z.1 c.if-n-lt1.false c.if-n-gt-NAME_BYTES.false
          ∙ c.if-not-has_no_zero.true,
      refl,
    )

pub returns : goal.returns
returns c =
    let z = c.has_no_zero.ensures in (
      sought-key _ _ _ c.padded-key.ensures (search rules) z.0 z.1 c.if-n-lt1.false c.if-n-gt-NAME_BYTES.false
          ∙ c.if-not-has_no_zero.false,
      c.padded-key.ensures,
    )
