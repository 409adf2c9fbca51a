-- `numbers::allowed` meets its contract. Assumes nothing.
use borrow.Author.Rules.{rules}
use Rattle.ring.specs.Ring.{allowed}
use Rattle.ring.proofs.numbers.allowed.Goals as goal

pub returns : goal.returns
unfolding allowed
returns c = search rules
