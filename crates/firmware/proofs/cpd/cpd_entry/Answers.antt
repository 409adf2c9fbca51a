-- `cpd::cpd_entry` meets its contract: no name is sought, so none is shared. Assumes nothing.
use mathlib.Core.Bool.{false}
use mathlib.Core.Path.{refl, sym, ◌∙◌}
use Rattle.refusal.proofs.NotZero.{number-not-0}
use Rattle.std.proofs.lemmas.Result.{err_from_is_err_and}
use Rattle.firmware.proofs.Read.{entry-is, entry-none, entry-own}
use Rattle.firmware.proofs.cpd.cpd_entry.Goals as goal

pub returns-in_err-t : goal.returns-in_err-t
returns-in_err-t c =
    let p = err_from_is_err_and c.from_residual.result c.from_residual.ensures.1 in
    rw (p.1, p.2) (sym (entry-own _ c.in_err-t.ensures _ false (number-not-0 _)) ∙ entry-is _ _)

pub returns-then-t-i : goal.returns-then-t-i
returns-then-t-i c = sym (entry-none _ c.in_ok-t.ensures refl _ false c.if-t-i.true) ∙ entry-is _ _

pub returns : goal.returns
returns c = c.entry_located.ensures ∙ entry-is _ _
