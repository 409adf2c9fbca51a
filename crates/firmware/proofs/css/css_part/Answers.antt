-- `css::css_part` meets its contract. Assumes nothing.
use Rattle.firmware.proofs.Lies.{css_lies, located-ends, located-span}
use Rattle.firmware.proofs.css.css_part.Goals as goal

pub part-requires : goal.part-requires
part-requires c = located-ends _ _ (css_lies _ _) _ _ c.css_located.ensures

pub returns : goal.returns
returns c = rw (located-span _ _ (css_lies _ _) _ _ c.css_located.ensures) at c.part.ensures
