-- `parts::guc_css_copy` meets its contract. Assumes nothing.
use mathlib.Core.Option.{Option-elim}
use Rattle.firmware.proofs.Lies.{css_lies, located-code, located-truncated, located-ends, located-span}
use Rattle.guc.specs.Parts.{css_copy}
use Rattle.guc.proofs.parts.guc_css_copy.Goals as goal

pub copy_part-requires : goal.copy_part-requires
copy_part-requires c = located-ends _ _ (css_lies _ _) _ _ c.css_located.ensures

pub returns-in-None : goal.returns-in-None
unfolding css_copy Option-elim
returns-in-None c = rw (c.in-None.ensures, c.refused.ensures)

pub returns-in-Some : goal.returns-in-Some
unfolding css_copy Option-elim
returns-in-Some c =
    let found = c.css_located.ensures in
    rw (
      c.in-Some.ensures,
      located-code _ _ _ found,
      located-truncated _ _ _ found,
      ← located-span _ _ (css_lies _ _) _ _ found,
    )
    c.copy_part.ensures
