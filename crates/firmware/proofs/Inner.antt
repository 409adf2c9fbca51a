-- The image in `huc_fw`: a location in the part is one in the directory's blob. Assumes nothing.
use Prim.Native.Nat.{ℕ, ◌+◌, ◌-◌, ◌≤◌}
use mathlib.Core.Path.{◌≡◌, refl, sym, ap, ◌∙◌}
use mathlib.Core.Bool.{Bool, true, false, cond}
use mathlib.Core.List.{List}
use native.Mathlib.Omega.{arith}
use lib.ListN.{length}
use lib.Dec.{eqb}
use borrow.Author.Tests.{eq-eqb, ne_eqb}
use Rattle.firmware.specs.Bytes.{Span, span, nowhere, bytes, located_at}
use Rattle.firmware.specs.Css
use Rattle.firmware.specs.Cpd
use Rattle.firmware.specs.Inside.{huc_name, part_named, huc_blob, huc_number, huc_truncated, huc_span, huc_located, within}
use Rattle.firmware.specs.Private.{outer}
use Rattle.firmware.specs.Bytes.{Location}
use Rattle.firmware.specs.declared.css.Component.{Component}
use Rattle.firmware.proofs.Nowhere.{name-nowhere}
use Rattle.firmware.proofs.Lies.{cpd_lies, located-code, located-span, shown-beyond}

-- a span in the image, told by the code from where it starts, is the one that is shown
chosen :
    (at n : ℕ) (t s : Bool) (p : Span) → (s ≡ true → 128 ≤ p.from)
    → outer at (located_at n t (cond s p nowhere)) ≡ located_at n t (cond s (within at p) nowhere)
unfolding outer
chosen at n t true p h =
    let l : 128 ≤ p.from = h refl in
    let away : eqb p.from 0 ≡ false = ne_eqb p.from 0 (λ e. absurd (omega arith)) in
    let d : at + p.to - (at + p.from) ≡ p.to - p.from = omega arith in
    simp (away, d)
chosen at n t false p h = refl

outer-located :
    (at : ℕ) (which : Component) (i : List ℕ)
    → outer at (Css.located which i)
    ≡ located_at (Css.number i) (Css.truncated i) (cond (Css.shown which i) (within at (Css.span_of which (Css.sizes i))) nowhere)
unfolding Css.part
outer-located at which i =
    chosen at (Css.number i) (Css.truncated i) (Css.shown which i) (Css.span_of which (Css.sizes i))
    (λ e. (shown-beyond i which e).after)

-- an image that is refused is nowhere in the directory's blob too
pub outer-nowhere : (at k : ℕ) → outer at (located_at k false nowhere) ≡ located_at k false nowhere
unfolding outer
outer-nowhere at k = refl

-- the bytes of a part that is found
pub found-bytes :
    (b name : List ℕ) {f : Location} → f ≡ Cpd.located b name
    → bytes b (span f.start (f.start + f.len)) ≡ part_named b name
found-bytes b name e = ap (bytes b) (located-span (length b) (Cpd.part b name) (cpd_lies b name) (Cpd.number b name) false e)

-- what is found under `huc_fw`
module _ (b : List ℕ) (which : Component) {f : Location} (e : f ≡ Cpd.located b huc_name) where
  pub huc-refused : eqb f.code 0 ≡ false → f ≡ huc_located which b
  unfolding huc_number huc_truncated huc_span
  huc-refused z =
      let number : eqb (Cpd.number b huc_name) 0 ≡ false = rw (located-code _ _ _ e) z in
      let part : Cpd.part b huc_name ≡ nowhere = name-nowhere b huc_name number in
      e ∙ simp (number, part)

  pub huc-found :
      {l : Location} → f.code ≡ 0 → l ≡ Css.located which (bytes b (span f.start (f.start + f.len)))
      → outer f.start l ≡ huc_located which b
  unfolding huc_number huc_truncated huc_span
  huc-found {l} z q =
      let number : eqb (Cpd.number b huc_name) 0 ≡ true =
      eq-eqb (Cpd.number b huc_name) 0 (sym (ap (λ (x : Location). x.code) e) ∙ z) in
      let inner : l ≡ Css.located which (huc_blob b) = rw (found-bytes b huc_name e) at q in
      let starts : f.start ≡ (Cpd.part b huc_name).from = ap (λ (x : Location). x.start) e in
      rw (inner, starts) (outer-located (Cpd.part b huc_name).from which (huc_blob b) ∙ simp number)
