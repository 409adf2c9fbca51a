-- `cpd::walk` meets its contract: the first entry that agrees is not before the one that the walk has come to. Assumes
-- nothing.
use Prim.Native.Nat.{ℕ, ◌<◌}
use mathlib.Core.Path.{◌≡◌, refl, sym, ◌∙◌}
use borrow.Author.Tests.{eq-eqb, ne_eqb}
use native.Mathlib.Omega.{arith}
use lib.ListN.{get_or}
use mir.Syntax.{w8}
use mir.Val.{Fits}
use Rattle.firmware.specs.Private.{walked}
use Rattle.firmware.proofs.Search.{all_more, all_fails, passes, finds, ends}
use Rattle.firmware.proofs.Names.{front_differs, front-agrees}
use borrow.Author.Rules.{rules}
use Rattle.firmware.proofs.cpd.walk.Goals as goal

pub entries-init : goal.entries-init
unfolding walked
entries-init c = refl

pub entries-preserved-then-front_at-first : goal.entries-preserved-then-front_at-first
entries-preserved-then-front_at-first c =
    let at-entries = c in
    let a = at-entries.args in
    passes _ a.count at-entries.entries.i (omega arith)
    (front_differs a.blob.now a.key _ (λ e.
    c.if-front_at-first.true (c.front_at.ensures ∙ e ∙ sym at-entries.front-first.ensures)))
    at-entries.entries.invariant

pub loop-j-init : goal.loop-j-init
loop-j-init c =
    let at-entries = c in
    let at-start = at-entries in
    let a = at-start.args in
    let bytes : (j : ℕ) → get_or a.blob.now j 0 < 256 = λ j. omega (arith, at-start.shared_slice_known-1.given j) in
    let keys : (j : ℕ) → get_or a.key j 0 < 256 = λ j. let f : Fits w8 (get_or a.key j 0) = search rules in f.fits in (
      refl,
      omega arith,
      omega arith,
      front-agrees a.blob.now a.key _ bytes keys
          (sym c.front_at.ensures ∙ c.if-front_at-first.false ∙ at-entries.front-first.ensures),
    )

pub entries-preserved : goal.entries-preserved
entries-preserved c =
    let at-loop = c in
    let at-entries = at-loop in
    let a = at-entries.args in
    rw at-loop.loop-j.invariant.0
    (passes _ a.count at-entries.entries.i (omega arith)
    (all_fails _ 12 at-loop.loop-j.j (omega arith) (ne_eqb _ _ c.if-blob-at.true))
    at-entries.entries.invariant)

pub loop-j-preserved : goal.loop-j-preserved
loop-j-preserved c =
    let at-loop = c in
    (at-loop.loop-j.invariant.0, omega arith, omega arith, all_more _ at-loop.loop-j.j at-loop.loop-j.invariant.3 (eq-eqb _ _ c.if-blob-at.false))

pub returns-then-count-i : goal.returns-then-count-i
returns-then-count-i c =
    let at-entries = c in
    ends _ _ at-entries.entries.i c.if-count-i.true at-entries.entries.invariant

pub returns-after-loop-j : goal.returns-after-loop-j
returns-after-loop-j c =
    let at-loop = c in
    let at-entries = at-loop in
    let e : at-loop.loop-j.j ≡ 12 = omega arith in
    at-loop.loop-j.invariant.0 ∙ finds _ _ at-entries.entries.i at-loop.if-count-i.false
    (rw e at at-loop.loop-j.invariant.3) at-entries.entries.invariant
