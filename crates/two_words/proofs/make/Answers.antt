-- `make` meets its contract. Assumes nothing.
use borrow.Author.Rules.{rules}
use Rattle.two_words.proofs.Laws.{made_idle}
use Rattle.two_words.proofs.make.Goals as goal

pub returns : goal.returns
returns c = made_idle c.args.n c.args.w.now (search rules)
