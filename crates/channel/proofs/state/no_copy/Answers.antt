-- `state::no_copy` meets its contract. Assumes nothing.
use borrow.Author.Rules.{rules}
use Rattle.channel.specs.State.{zeros}
use Rattle.channel.proofs.state.no_copy.Goals as goal

pub returns : goal.returns
unfolding zeros
returns c = search rules
