-- Each part that a judgement gives lies within the blob. Assumes nothing.
use Prim.Native.Nat.{ℕ, ◌+◌, ◌-◌, ◌*◌, ◌≤◌, ◌<◌}
use mathlib.Core.Path.{◌≡◌, refl}
use mathlib.Core.Bool.{Bool, true, false, not, ◌&&◌, cond}
use mathlib.Core.List.{List}
use native.Mathlib.Omega.{arith}
use lib.ListN.{length, length-take, length-drop}
use lib.Dec.{eqb, leb, ltb}
use borrow.Author.Tests.{ltb-true, ltb-false, leb-true, eqb-true, not-false}
use Rattle.firmware.specs.Bytes.{Span, span, bytes, located_at}
use Rattle.firmware.specs.Css
use Rattle.firmware.specs.Cpd
use Rattle.firmware.specs.Inside.{huc_name, huc_blob, huc_span}
use Rattle.firmware.specs.Private.{table_of}
use Rattle.firmware.specs.Bytes.{Location}
use Rattle.firmware.specs.Private.{TableRead}
use Rattle.firmware.specs.declared.css.Sizes.{Sizes}
use Rattle.firmware.specs.declared.css.Component.{Component}
use Rattle.firmware.specs.declared.css.Component.TheVariants.{Ucode, Rsa, Modulus, Exponent}
use Rattle.firmware.proofs.Tests.{either, both, unmet, both_pass}

-- a part that lies within n bytes
pub record Lies (n : ℕ) (p : Span) : Type 0 where
  pub begins : p.from ≤ p.to
  pub ends : p.to ≤ n

pub located-code : (k : ℕ) (t : Bool) (p : Span) {l : Location} → l ≡ located_at k t p → k ≡ l.code
located-code k t p e = rw e

pub located-truncated : (k : ℕ) (t : Bool) (p : Span) {l : Location} → l ≡ located_at k t p → t ≡ l.truncated
located-truncated k t p e = rw e

-- a location of a part that lies within n bytes
module _ (n : ℕ) (p : Span) (h : Lies n p) (k : ℕ) (t : Bool) {l : Location} (e : l ≡ located_at k t p) where
  pub located-ends : l.start + l.len ≤ n
  located-ends = rw e (omega arith)

  pub located-span : span l.start (l.start + l.len) ≡ p
  located-span = let g : p.from + (p.to - p.from) ≡ p.to = omega arith in rw (e, g)

-- what an image of n bytes has that is accepted
pub record Accepted (n : ℕ) (z : Sizes) : Type 0 where
  pub has_header : 128 ≤ n
  pub sum : z.h ≡ 32 + z.k + z.m + z.e
  pub has_rsa : 1 ≤ z.k
  pub above : z.h < z.s
  pub there : 128 + 4 * (z.s - z.h) + 4 * z.k ≤ n

pub sizes-agree : (z : Sizes) → Css.agree z ≡ true → (z.h ≡ 32 + z.k + z.m + z.e) × (z.h < z.s) × (1 ≤ z.k)
unfolding Css.agree
sizes-agree z e =
    let l = both (eqb z.h (32 + z.k + z.m + z.e) && leb 1 z.k) (ltb z.h z.s) e in
    let f = both (eqb z.h (32 + z.k + z.m + z.e)) (leb 1 z.k) l.0 in
    (eqb-true z.h (32 + z.k + z.m + z.e) f.0, ltb-true z.h z.s l.1, leb-true 1 z.k f.1)

pub css-accepted : (b : List ℕ) → Css.number b ≡ 0 → Accepted (length b) (Css.sizes b)
unfolding Css.number
css-accepted b e =
    let z : Sizes = Css.sizes b in
    let there : ℕ = 128 + 4 * (z.s - z.h) + 4 * z.k in
    let u = unmet (ltb (length b) 128) 15 _ refl e in
    let v = unmet (not (Css.agree z)) 16 _ refl u.1 in
    let w = unmet (ltb (length b) there) 17 _ refl v.1 in
    let a = sizes-agree z (not-false (Css.agree z) v.0) in record {
      has_header = ltb-false (length b) 128 u.0;
      sum = a.0;
      has_rsa = a.2;
      above = a.1;
      there = ltb-false (length b) there w.0;
    }

-- a component that is shown starts beyond the header and lies within the blob
pub record Beyond (n : ℕ) (p : Span) : Type 0 where
  pub after : 128 ≤ p.from
  pub lies : Lies n p

pub shown-beyond :
    (b : List ℕ) (which : Component) → Css.shown which b ≡ true → Beyond (length b) (Css.span_of which (Css.sizes b))
unfolding Css.shown Css.span_of
shown-beyond b Ucode e = let a = css-accepted b (eqb-true (Css.number b) 0 e) in omega arith
shown-beyond b Rsa e = let a = css-accepted b (eqb-true (Css.number b) 0 e) in omega arith
shown-beyond b Modulus e =
    let t = both (Css.is_image b) (Css.all_there b) e in
    let a = css-accepted b (eqb-true (Css.number b) 0 t.0) in
    omega (arith, leb-true (4 * (Css.sizes b).s) (length b) t.1)
shown-beyond b Exponent e =
    let t = both (Css.is_image b) (Css.all_there b) e in
    let a = css-accepted b (eqb-true (Css.number b) 0 t.0) in
    omega (arith, leb-true (4 * (Css.sizes b).s) (length b) t.1)

pub css_lies : (b : List ℕ) (which : Component) → Lies (length b) (Css.part which b)
unfolding Css.part
css_lies b which = either (Lies (length b)) (Css.shown which b) _ _ (λ e. (shown-beyond b which e).lies) (λ _. omega arith)

-- the last component ends at 4s: 'Bytes past 4s belong to no part.'
pub ends-at_4s : (b : List ℕ) → Css.number b ≡ 0 → (Css.span_of Exponent (Css.sizes b)).to ≡ 4 * (Css.sizes b).s
unfolding Css.span_of
ends-at_4s b e = let a = css-accepted b e in omega arith

-- the entries of a directory lie within the blob
entries-there : (b : List ℕ) → Cpd.directory_number b ≡ 0 → Cpd.header_length b + 24 * Cpd.count b ≤ length b
unfolding Cpd.directory_number
entries-there b e =
    let u = unmet (ltb (length b) 20) 15 _ refl e in
    let v = unmet (not (Cpd.has_marker b && leb 20 (Cpd.header_length b))) 18 _ refl u.1 in
    let w = unmet (ltb (length b) (Cpd.header_length b + 24 * Cpd.count b)) 19 0 refl v.1 in
    ltb-false (length b) (Cpd.header_length b + 24 * Cpd.count b) w.0

room : (t : Bool) (x y n : ℕ) → (t ≡ true → x + 24 * y ≤ n) → cond t x 0 + 24 * cond t y 0 ≤ n
room true x y n h = h refl
room false x y n h = omega arith

table_lies : (b : List ℕ) → (table_of b).start + 24 * (table_of b).count ≤ length b
unfolding table_of
table_lies b =
    room (eqb (Cpd.directory_number b) 0) (Cpd.header_length b) (Cpd.count b) (length b)
    (λ e. entries-there b (eqb-true (Cpd.directory_number b) 0 e))

pub table-room : (b : List ℕ) {t : TableRead} → t ≡ table_of b → t.start + 24 * t.count ≤ length b
table-room b e = rw e (table_lies b)

-- the part of a name lies within the blob: it was judged by 21 last
part-accepted : (b : List ℕ) (i : ℕ) → Cpd.part_number b i ≡ 0 → Lies (length b) (Cpd.entry_part b (Cpd.entry_start b i))
part-accepted b i e =
    let to : ℕ = (Cpd.entry_part b (Cpd.entry_start b i)).to in
    let w = unmet (ltb (length b) to) 21 0 refl e in
    omega (arith, ltb-false (length b) to w.0)

name-accepted : (b name : List ℕ) → Cpd.number b name ≡ 0 → Cpd.part_number b (Cpd.first_entry b name) ≡ 0
unfolding Cpd.number
name-accepted b name e =
    let u = unmet (not (Cpd.is_name name)) 14 _ refl e in
    let v = both_pass (Cpd.directory_number b) _ u.1 in
    let w = unmet (eqb (Cpd.entries_named b name) 0) 20 _ refl v.1 in
    (unmet (ltb 1 (Cpd.entries_named b name)) 22 _ refl w.1).1

pub cpd_lies : (b name : List ℕ) → Lies (length b) (Cpd.part b name)
unfolding Cpd.part
cpd_lies b name =
    either (Lies (length b)) (eqb (Cpd.number b name) 0) _ _
    (λ e. part-accepted b (Cpd.first_entry b name) (name-accepted b name (eqb-true (Cpd.number b name) 0 e)))
    (λ _. omega arith)

-- the bytes of a part that lies within the blob are as many as its length
pub length-bytes : (b : List ℕ) (p : Span) → Lies (length b) p → length (bytes b p) ≡ p.to - p.from
length-bytes b p h = simp (length-take, length-drop) (omega arith)

-- a component of the image in `huc_fw` lies within the directory's blob
pub huc_lies : (b : List ℕ) (which : Component) → Lies (length b) (huc_span which b)
unfolding huc_span
huc_lies b which =
    let p : Span = Cpd.part b huc_name in
    let q : Span = Css.span_of which (Css.sizes (huc_blob b)) in
    let outside : Lies (length b) p = cpd_lies b huc_name in
    either (Lies (length b)) (eqb (Cpd.number b huc_name) 0 && Css.shown which (huc_blob b)) _ _
    (λ e.
    let inside : Lies (length (huc_blob b)) q =
    (shown-beyond (huc_blob b) which (both (eqb (Cpd.number b huc_name) 0) (Css.shown which (huc_blob b)) e).1).lies in
    let n : length (huc_blob b) ≡ p.to - p.from = length-bytes b p outside in
    omega arith)
    (λ _. omega arith)
