-- `cpd::cpd_part` meets its contract. Assumes nothing.
use Rattle.firmware.proofs.Lies.{cpd_lies, located-ends, located-span}
use Rattle.firmware.proofs.cpd.cpd_part.Goals as goal

pub part-requires : goal.part-requires
part-requires c = located-ends _ _ (cpd_lies _ _) _ _ c.cpd_located.ensures

pub returns : goal.returns
returns c = rw (located-span _ _ (cpd_lies _ _) _ _ c.cpd_located.ensures) at c.part.ensures
