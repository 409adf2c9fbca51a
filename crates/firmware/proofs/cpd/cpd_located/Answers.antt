-- `cpd::cpd_located` meets its contract: two walks, the second from behind the entry that the first has found. Assumes
-- nothing.
use mathlib.Core.Path.{refl, ◌∙◌}
use native.Mathlib.Omega.{arith}
use Rattle.std.proofs.lemmas.Result.{err_from_is_err_and}
use Rattle.refusal.proofs.NotZero.{number-not-0}
use Rattle.firmware.proofs.Lies.{table-room}
use Rattle.firmware.proofs.Read.{name-own, named-none, named-so, no_name, walk_ends}
use Rattle.firmware.proofs.cpd.cpd_located.Goals as goal

pub returns-in_err-key : goal.returns-in_err-key
returns-in_err-key c =
    let p = err_from_is_err_and c.from_residual.result c.from_residual.ensures.1 in
    rw (p.1, p.2, c.in_err-key.ensures.1) (no_name _ _ c.in_err-key.ensures.0)

pub returns-in_err-t : goal.returns-in_err-t
returns-in_err-t c =
    let p = err_from_is_err_and c.from_residual-in_err-t.result c.from_residual-in_err-t.ensures.1 in
    rw (p.1, p.2) (name-own _ _ c.in_err-t.ensures c.in_ok-key.ensures.0 (number-not-0 _))

pub walk-i-requires : goal.walk-i-requires
walk-i-requires c = table-room _ c.in_ok-t.ensures

pub overflow_add-behind : goal.overflow_add-behind
overflow_add-behind c = omega (arith, walk_ends _ _ _ _ c.walk-i.ensures, table-room _ c.in_ok-t.ensures)

pub found-next-requires : goal.found-next-requires
found-next-requires c = table-room _ c.in_ok-t.ensures

pub returns-then-t-i : goal.returns-then-t-i
returns-then-t-i c =
    let key = c.in_ok-key.ensures in
    named-none _ _ _ key.0 key.1 c.in_ok-t.ensures refl c.walk-i.ensures c.if-t-i.true

pub returns : goal.returns
returns c =
    let key = c.in_ok-key.ensures in
    let named = named-so _ _ _ key.0 key.1 c.in_ok-t.ensures refl c.walk-i.ensures c.if-t-i.false _ c.found-next.ensures in
    c.entry_located.ensures ∙ rw c.is_some.ensures named
