-- `parts::copy_part` meets its contract. Assumes nothing.
use borrow.Author.Tests.{lt-ltb, le-ltb, le-leb}
use Rattle.refusal.proofs.NotZero.{number-not-0}
use Rattle.guc.proofs.Flags.{flag_is}
use Rattle.guc.specs.Parts.{copied_by}
use Rattle.guc.proofs.parts.copy_part.Goals as goal

pub returns-in-Err : goal.returns-in-Err
unfolding copied_by
returns-in-Err c = simp (c.in-Err.is, c.refused.ensures, c.number.ensures, number-not-0)

pub returns-then-dst-len : goal.returns-then-dst-len
unfolding copied_by
returns-then-dst-len c =
    simp (c.in-Ok.is, c.from-truncated.ensures, flag_is, lt-ltb _ _ c.if-dst-len.true)

pub returns : goal.returns
unfolding copied_by
returns c =
    simp (
      c.in-Ok.is,
      c.from-truncated.ensures,
      flag_is,
      le-ltb _ _ c.if-dst-len.false,
      c.copy.ensures,
      le-leb _ _ c.if-dst-len.false,
    )
