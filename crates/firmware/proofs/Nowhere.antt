-- What is refused is nowhere, and says no truncated. Assumes nothing.
use Prim.Native.Nat.{ℕ}
use mathlib.Core.Path.{◌≡◌, refl}
use mathlib.Core.Bool.{Bool, true, false}
use mathlib.Core.List.{List}
use lib.Dec.{eqb}
use Rattle.firmware.specs.Bytes.{nowhere, located_at}
use Rattle.firmware.specs.Css
use Rattle.firmware.specs.Cpd
use Rattle.firmware.specs.Inside.{huc_name, huc_blob, huc_number, huc_truncated, huc_span, huc_located}
use Rattle.firmware.specs.declared.css.Component.{Component}
use Rattle.firmware.specs.declared.css.Component.TheVariants.{Ucode, Rsa, Modulus, Exponent}

-- a component of an image that is refused
not_shown : (b : List ℕ) (which : Component) → Css.is_image b ≡ false → Css.shown which b ≡ false
unfolding Css.shown
not_shown b Ucode e = e
not_shown b Rsa e = e
not_shown b Modulus e = rw e
not_shown b Exponent e = rw e

pub image-nowhere :
    (b : List ℕ) (which : Component) → Css.is_image b ≡ false
    → Css.located which b ≡ located_at (Css.number b) false nowhere
unfolding Css.part Css.truncated
image-nowhere b which e = rw (not_shown b which e, e)

-- an entry, and a name, that is refused
pub entry-nowhere : (b : List ℕ) (i : ℕ) → eqb (Cpd.entry_number b i) 0 ≡ false → Cpd.entry_span b i ≡ nowhere
unfolding Cpd.entry_span
entry-nowhere b i e = rw e

pub name-nowhere : (b name : List ℕ) → eqb (Cpd.number b name) 0 ≡ false → Cpd.part b name ≡ nowhere
unfolding Cpd.part
name-nowhere b name e = rw e

-- a component of the image in `huc_fw`, where the directory refuses, and where the image does
pub huc_outside_nowhere :
    (b : List ℕ) (which : Component) → eqb (Cpd.number b huc_name) 0 ≡ false
    → huc_located which b ≡ located_at (Cpd.number b huc_name) false nowhere
unfolding huc_number huc_truncated huc_span
huc_outside_nowhere b which e = rw e

pub huc-nowhere :
    (b : List ℕ) (which : Component) → eqb (huc_number b) 0 ≡ false
    → huc_located which b ≡ located_at (huc_number b) false nowhere
unfolding huc_number huc_truncated huc_span Css.truncated
huc-nowhere b which e = go (eqb (Cpd.number b huc_name) 0) refl
  where
    go : (t : Bool) → eqb (Cpd.number b huc_name) 0 ≡ t → huc_located which b ≡ located_at (huc_number b) false nowhere
    go true q =
        let inner : Css.is_image (huc_blob b) ≡ false = rw q at e in
        simp (q, inner, not_shown (huc_blob b) which inner)
    go false q = simp q
