-- `record::word_of` meets its contract: with what is set aside beside it, the word holds the whole record. Assumes nothing.
use mathlib.Core.Path.{refl}
use borrow.Author.Rules.{rules}
use Rattle.requests.specs.Words.{word_of}
use Rattle.requests.proofs.Words.{word_back}
use Rattle.requests.proofs.record.word_of.Goals as goal

pub returns : goal.returns
unfolding word_of
returns c = record { word = refl; back = word_back c.args.r (search rules) (search rules) (search rules) (search rules) }
