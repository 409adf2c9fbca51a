-- `messages::no_entry` meets its contract. Assumes nothing.
use borrow.Author.Rules.{rules}
use Rattle.record.specs.Private.{blank}
use Rattle.record.proofs.messages.no_entry.Goals as goal

pub returns : goal.returns
unfolding blank
returns c = search rules
