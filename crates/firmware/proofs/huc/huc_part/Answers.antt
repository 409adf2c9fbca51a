-- `huc::huc_part` meets its contract. Assumes nothing.
use Rattle.firmware.proofs.Lies.{huc_lies, located-ends, located-span}
use Rattle.firmware.proofs.huc.huc_part.Goals as goal

pub part-requires : goal.part-requires
part-requires c = located-ends _ _ (huc_lies _ _) _ _ c.huc_located.ensures

pub returns : goal.returns
returns c = rw (located-span _ _ (huc_lies _ _) _ _ c.huc_located.ensures) at c.part.ensures
