-- `header::known_type` meets its contract: a type is found exactly where one is known. Assumes nothing.
use mathlib.Core.Path.{sym, ◌∙◌}
use Rattle.message.proofs.Types.{known-found}
use Rattle.message.proofs.header.known_type.Goals as goal

pub returns : goal.returns
returns c =
    c.is_ok.ensures.value ∙ sym (known-found c.args.word c.try_from.result (rw (sym c.hxg_type.ensures) c.try_from.ensures))
