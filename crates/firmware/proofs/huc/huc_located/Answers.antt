-- `huc::huc_located` meets its contract. Assumes nothing.
use Prim.Native.Nat.{◌+◌}
use mathlib.Core.Path.{refl, sym, ◌∙◌}
use native.Mathlib.Omega.{arith}
use Rattle.std.proofs.lemmas.Result.{err_from_is_err_and}
use Rattle.refusal.proofs.NotZero.{number-not-0}
use Rattle.firmware.specs.Bytes.{span, bytes}
use Rattle.firmware.proofs.Lies.{cpd_lies, css_lies, located-ends, length-bytes}
use Rattle.firmware.proofs.Inner.{huc-refused, huc-found, outer-nowhere}
use Rattle.firmware.proofs.huc.huc_located.Goals as goal

pub returns-in_err-f : goal.returns-in_err-f
returns-in_err-f c =
    let p = err_from_is_err_and c.from_residual.result c.from_residual.ensures.1 in
    rw (p.1, p.2) (huc-refused _ _ c.in_err-f.ensures (number-not-0 _))

pub part_of-requires : goal.part_of-requires
part_of-requires c = located-ends _ _ (cpd_lies _ _) _ _ c.in_ok-f.ensures

pub returns-in_err-l : goal.returns-in_err-l
returns-in_err-l c =
    let p = err_from_is_err_and c.from_residual-in_err-l.result c.from_residual-in_err-l.ensures.1 in
    let inner = rw c.part_of.ensures.same_bytes at c.in_err-l.ensures in
    rw (p.1, p.2) (sym (outer-nowhere c.in_ok-f.f.start _) ∙ huc-found _ _ c.in_ok-f.ensures refl inner)

pub outer-requires : goal.outer-requires
outer-requires c =
    let f = c.in_ok-f.f in
    let p = span f.start (f.start + f.len) in
    let l = located-ends _ _ (cpd_lies _ _) _ _ c.in_ok-f.ensures in
    let n = length-bytes c.args.blob.now p (record { begins = omega arith; ends = l }) in
    let inner = rw c.part_of.ensures.same_bytes at c.in_ok-l.ensures in
    let m = located-ends _ _ (css_lies (bytes c.args.blob.now p) c.args.which) _ _ inner in
    omega arith

pub returns : goal.returns
returns c =
    let inner = rw c.part_of.ensures.same_bytes at c.in_ok-l.ensures in
    c.outer.ensures ∙ huc-found _ _ c.in_ok-f.ensures refl inner
