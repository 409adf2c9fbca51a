-- `cpd::has_key` meets its contract. Assumes nothing.
use Prim.Native.Nat.{ℕ, ◌<◌}
use mathlib.Core.Path.{sym, ◌∙◌}
use lib.ListN.{get_or}
use mir.Syntax.{w8}
use mir.Val.{Fits}
use Rattle.firmware.proofs.Names.{back-tells, front-tells}
use borrow.Author.Rules.{rules}
use Rattle.firmware.proofs.cpd.has_key.Goals as goal

pub returns-then-front_at : goal.returns-then-front_at
returns-then-front_at c =
    let a = c.args in
    let bytes : (j : ℕ) → get_or a.blob.now j 0 < 256 = λ j. (c.type_inv.blob j).fits in
    let keys : (j : ℕ) → get_or a.key j 0 < 256 = λ j. let f : Fits w8 (get_or a.key j 0) = search rules in f.fits in
    back-tells a.blob.now a.key a.at bytes keys (sym c.front_at.ensures ∙ c.if-front_at.true ∙ c.front_at-2.ensures) _ _
    c.dword_at.ensures.0 c.dword_at-then-front_at.ensures.0

pub returns-else-front_at : goal.returns-else-front_at
returns-else-front_at c =
    let a = c.args in
    let bytes : (j : ℕ) → get_or a.blob.now j 0 < 256 = λ j. (c.type_inv.blob j).fits in
    let keys : (j : ℕ) → get_or a.key j 0 < 256 = λ j. let f : Fits w8 (get_or a.key j 0) = search rules in f.fits in
    front-tells a.blob.now a.key a.at bytes keys
    (λ e. c.if-front_at.false (c.front_at.ensures ∙ e ∙ sym c.front_at-2.ensures)) _ _ c.front_at.ensures c.front_at-2.ensures
