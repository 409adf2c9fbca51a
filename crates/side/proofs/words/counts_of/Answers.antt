-- `words::counts_of` meets its contract: they are the first four words. Assumes nothing.
use Rattle.side.specs.Words.{state_of}
use Rattle.side.proofs.words.counts_of.Goals as goal

pub returns : goal.returns
unfolding state_of
returns c =
    let after-own = c in
    simp (c.wide-4.ensures, c.wide-3.ensures, after-own.wide-2.ensures, after-own.wide.ensures)
