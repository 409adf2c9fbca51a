-- `unpacking::unpack` meets its contract: a message's type is known, so it has a body. Assumes nothing.
use Prim.Native.Nat.{ℕ}
use mathlib.Core.Path.{◌≡◌, sym, ap, ◌∙◌}
use mathlib.Core.Bool.{Bool, ◌&&◌}
use mathlib.Core.List.{List}
use lib.ListN.{length, get_or}
use lib.Dec.{eqb}
use Rattle.std.proofs.lemmas.Result.{err_from_is_err_and}
use Rattle.std.specs.Prelude.{is_ok}
use Rattle.message.specs.Types.{body_of, known}
use Rattle.message.specs.Header.{total_length, well_formed, is_message}
use Rattle.message.specs.Packing.{decoded, refusing, of_unpacked}
use Rattle.message.proofs.Types.{known-found}
use Rattle.message.proofs.PackLaws.{unpack_some, unpack-none, unpack-unknown}
use Rattle.message.proofs.unpacking.unpack.Goals as goal

-- what the test of a length and two dwords that were read says of the list
judged :
    (h w : ℕ) (d : List ℕ) (b t : Bool) → b ≡ (eqb (length d) (total_length h) && well_formed h w)
    → h ≡ get_or d 0 0 → w ≡ get_or d 1 0 → b ≡ t
    → is_message d ≡ t
unfolding is_message
judged h w d b t e eh ew q = rw (← eh, ← ew, ← e, q)

pub returns-then-not-starts_message : goal.returns-then-not-starts_message
unfolding refusing of_unpacked
returns-then-not-starts_message c =
    let s = c.starts_message.ensures in
    let e = judged _ _ _ _ _ s c.dword_at-header.ensures c.dword_at-word.ensures c.if-not-starts_message.true in
    simp (unpack-none _ e)

pub returns-in_err-t : goal.returns-in_err-t
unfolding refusing of_unpacked
returns-in_err-t c =
    let f = err_from_is_err_and c.from_residual.result c.from_residual.ensures.1 in
    let found = known-found _ c.try_from.result (rw (sym c.hxg_type.ensures) c.try_from.ensures) in
    let unknown = ap known (sym c.dword_at-word.ensures) ∙ found ∙ ap is_ok c.in_err-t.was in
    simp (f.1, f.2, unpack-unknown c.args.dwords.now unknown)

pub returns : goal.returns
unfolding refusing of_unpacked decoded
returns c =
    let h = c.dword_at-header.ensures in
    let w = c.dword_at-word.ensures in
    let e = judged _ _ _ _ _ c.starts_message.ensures h w c.if-not-starts_message.false in
    let u = unpack_some c.args.dwords.now c.body.result e (ap body_of (sym w) ∙ sym c.body.ensures) in
    simp (u, c.of.ensures, c.num_dwords.ensures, h, w)
