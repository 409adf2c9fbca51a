-- `packing::pack` meets its contract: the tests are those of `pack_is`, and the sums fit since the fields lie side by
-- side. Assumes nothing.
use Prim.Native.Nat.{ℕ}
use mathlib.Core.Path.{◌≡◌, refl, ◌∙◌}
use mathlib.Core.Bool.{Bool, true, false, cond}
use native.Mathlib.Omega.{arith}
use borrow.Author.Tests.{ltb-true}
use mathlib.Core.List.{List}
use Rattle.std.specs.Prelude.{Option, Result, Ok, Err, None, Some, ok_or}
use Rattle.std.proofs.lemmas.Result.{err_from_is_err_and}
use Rattle.refusal.specs.declared.Refusal.{Refusal}
use Rattle.refusal.specs.declared.Refusal.TheVariants.{BadField}
use Rattle.message.specs.Fields.{FieldValue, fit, dword}
use Rattle.message.specs.Types.{body_fields}
use Rattle.message.specs.Packing.{refusing, of_packed, origin_number}
use Rattle.message.proofs.Tests.{and_false}
use Rattle.message.proofs.Tiling.{dword_lt}
use Rattle.message.proofs.PackLaws.{pack_is, body_tiles, origin-fits}
use Rattle.message.proofs.packing.pack.Goals as goal

-- what the body's answer says: its fields fit, and their dword; or one is too wide
module _ (n : ℕ) (e : Refusal) where
  placed : (t : Bool) (x : ℕ) → ok_or (cond t (Some n) None) e ≡ Ok x → (t ≡ true) × (n ≡ x)
  placed true x q = (refl, cc)
  placed false x q = cc

  unplaced : (t : Bool) (r : Refusal) → ok_or (cond t (Some n) None) e ≡ Err r → (t ≡ false) × (e ≡ r)
  unplaced true r q = cc
  unplaced false r q = (refl, cc)

module _ (b : List FieldValue) (o : Option ℕ) (q : o ≡ cond (fit b) (Some (dword b)) None) where
  answered : (r : Result ℕ Refusal) → r ≡ ok_or o BadField → ok_or (cond (fit b) (Some (dword b)) None) BadField ≡ r
  answered r e = rw (e, q) refl

pub returns-in_err-bits : goal.returns-in_err-bits
unfolding refusing of_packed
returns-in_err-bits c =
    let b = body_fields c.args.m.body in
    let f = err_from_is_err_and c.from_residual.result c.from_residual.ensures.1 in
    let e = answered b _ c.body_bits.ensures _ c.ok_or.ensures.value ∙ c.in_err-bits.was in
    let p = unplaced (dword b) BadField (fit b) _ e in
    simp (f.1, f.2, ← p.1, pack_is, p.0, and_false)

pub overflow_mul-result-then-n-fence : goal.overflow_mul-result-then-n-fence
overflow_mul-result-then-n-fence c =
    omega (arith, c.from.ensures, ltb-true (origin_number c.args.m.origin) 2 (origin-fits c.args.m.origin))

pub overflow_add-result-then-n-fence : goal.overflow_add-result-then-n-fence
overflow_add-result-then-n-fence c =
    let o = c.args.m.origin in
    let b = body_fields c.args.m.body in
    let e = answered b _ c.body_bits.ensures _ c.ok_or.ensures.value ∙ c.in_ok-bits.was in
    let p = placed (dword b) BadField (fit b) _ e in
    omega (arith, p.1, c.from.ensures, dword_lt 31 b (body_tiles c.args.m.body) p.0, ltb-true (origin_number o) 2 (origin-fits o))

pub returns-then-n-fence : goal.returns-then-n-fence
unfolding refusing of_packed
returns-then-n-fence c =
    let b = body_fields c.args.m.body in
    let e = answered b _ c.body_bits.ensures _ c.ok_or.ensures.value ∙ c.in_ok-bits.was in
    let p = placed (dword b) BadField (fit b) _ e in
    simp (pack_is, c.if-n-fence.true, p.0, p.1, c.from.ensures)

pub returns-else-n-fence : goal.returns-else-n-fence
unfolding refusing of_packed
returns-else-n-fence c = simp (pack_is, c.if-n-fence.false)
