-- `words::make` meets its contract. Assumes nothing.
use mathlib.Core.Path.{◌∙◌}
use Rattle.side.proofs.InWords.{made}
use Rattle.side.proofs.words.make.Goals as goal

pub returns : goal.returns
returns c =
    let after-rest = c in
    let start = after-rest in
    let r = after-rest.idle_at in
    made start.args.n _ r.new.w (r.auto.w ∙ start.requires) r.ensures
