-- `css::agree` meets its contract. Assumes nothing.
use Rattle.firmware.specs.Css
use borrow.Author.Rules.{rules}
use Rattle.firmware.proofs.css.agree.Goals as goal

pub returns : goal.returns
unfolding Css.agree
returns c = search rules
