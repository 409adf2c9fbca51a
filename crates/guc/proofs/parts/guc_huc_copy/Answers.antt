-- `parts::guc_huc_copy` meets its contract. Assumes nothing.
use mathlib.Core.Option.{Option-elim}
use Rattle.firmware.proofs.Lies.{huc_lies, located-code, located-truncated, located-ends, located-span}
use Rattle.guc.specs.Parts.{huc_copy}
use Rattle.guc.proofs.parts.guc_huc_copy.Goals as goal

pub copy_part-requires : goal.copy_part-requires
copy_part-requires c = located-ends _ _ (huc_lies _ _) _ _ c.huc_located.ensures

pub returns-in-None : goal.returns-in-None
unfolding huc_copy Option-elim
returns-in-None c = rw (c.in-None.ensures, c.refused.ensures)

pub returns-in-Some : goal.returns-in-Some
unfolding huc_copy Option-elim
returns-in-Some c =
    let found = c.huc_located.ensures in
    rw (
      c.in-Some.ensures,
      located-code _ _ _ found,
      located-truncated _ _ _ found,
      ← located-span _ _ (huc_lies _ _) _ _ found,
    )
    c.copy_part.ensures
