-- CSS images agree with document 01, 'Firmware images': what the functions answer of any blob, said in the paper's
-- figures and not by how it is worked out.
use Rattle.std.specs.Prelude.{ℕ, ◌+◌, ◌-◌, ◌*◌, ◌/◌, ◌%◌, ◌≤◌, ◌<◌, ◌^◌, ◌≡◌, ◌↔◌, true, List, [], ◌∷◌, length, take, drop}
use Rattle.std.specs.Borrow.{Bor}
use Rattle.firmware.specs.Bytes.{PartOf}
use Rattle.firmware.specs.Css
use Rattle.firmware.specs.Version.{css_reading}
use Rattle.firmware.specs.Bytes.{Location}
use Rattle.firmware.specs.declared.css.Component.{Component}
use Rattle.firmware.specs.declared.css.Component.TheVariants.{Ucode, Rsa, Modulus, Exponent}

-- a location that is answered 0: where it starts, and its bytes
pub record At (start len : ℕ) (l : Location) : Type 0 where
  pub accepted : l.code ≡ 0
  pub starts : l.start ≡ start
  pub size : l.len ≡ len

-- where it ends, excluded
abbrev pub end_of : Location → ℕ
end_of l = l.start + l.len

-- 'the empty part at the start of the lent blob', beside a number
pub record EmptyAtStart (number : ℕ) (l : Location) : Type 0 where
  pub code : l.code ≡ number
  pub at-start : l.start ≡ 0
  pub empty : l.len ≡ 0

-- the bytes that are located
abbrev pub bytes_of : List ℕ → Location → List ℕ
bytes_of b l = take l.len (drop l.start b)

-- 'handed back as that part of the lent blob': the located bytes, in the blob's own memory, where they lie
pub record VeryBytes (blob : Bor (List ℕ)) (l : Location) (part : Bor (List ℕ)) : Type 0 where
  pub bytes : part.now ≡ bytes_of blob.now l
  pub block : part.ref_ptr.0 ≡ blob.ref_ptr.0
  pub start : part.ref_ptr.1 ≡ l.start + blob.ref_ptr.1

-- 'Dwords: 1 = h (all that is not uCode), 6 = s (all), 7 = k (RSA), 8 = m (modulus), 9 = e (exponent), 16 = version';
-- 'Sizes are in dwords.'
abbrev pub h : List ℕ → ℕ
h b = Css.header_dword b 1

abbrev pub s : List ℕ → ℕ
s b = Css.header_dword b 6

abbrev pub k : List ℕ → ℕ
k b = Css.header_dword b 7

abbrev pub m : List ℕ → ℕ
m b = Css.header_dword b 8

abbrev pub e : List ℕ → ℕ
e b = Css.header_dword b 9

abbrev pub version_dword : List ℕ → ℕ
version_dword b = Css.header_dword b 16

-- 'at least 128 bytes'; 'Over whole numbers h = 32 + k + m + e, k at least 1, s above h'; 'Bytes 128 + 4(s - h) + 4k
-- must be there'
pub record IsImage (b : List ℕ) : Type 0 where
  pub has_header : 128 ≤ length b
  pub sum : h b ≡ 32 + k b + m b + e b
  pub has_rsa : 1 ≤ k b
  pub has_ucode : h b < s b
  pub there : 128 + 4 * (s b - h b) + 4 * k b ≤ length b

-- where the parts of an accepted image lie, and its version
pub record ImageParts (b : List ℕ) : Type 0 where
  -- 'Order: header, uCode, RSA, modulus, exponent.': uCode lies past the header, the RSA past it
  pub ucode : At 128 (4 * (s b - h b)) (Css.located Ucode b)
  pub rsa : At (end_of (Css.located Ucode b)) (4 * k b) (Css.located Rsa b)
  -- 'Modulus and exponent are shown when the blob has at least 4s bytes': past the RSA, and the exponent past the
  -- modulus. 'Bytes past 4s belong to no part.': the last one ends there
  pub modulus : 4 * s b ≤ length b → At (end_of (Css.located Rsa b)) (4 * m b) (Css.located Modulus b)
  pub exponent : 4 * s b ≤ length b → At (end_of (Css.located Modulus b)) (4 * e b) (Css.located Exponent b)
  pub ends-at_4s : 4 * s b ≤ length b → end_of (Css.located Exponent b) ≡ 4 * s b
  -- 'else neither is (a truncated image): both are the empty part that a refusal gives, but the answer is 0'
  pub no_modulus : length b < 4 * s b → EmptyAtStart 0 (Css.located Modulus b)
  pub no_exponent : length b < 4 * s b → EmptyAtStart 0 (Css.located Exponent b)
  -- '(major 23:16, minor 15:8, patch 7:0)'
  pub reading :
      (css_reading b).version
      ≡ (version_dword b / 2 ^ 16 % 2 ^ 8) ∷ (version_dword b / 2 ^ 8 % 2 ^ 8) ∷ (version_dword b % 2 ^ 8) ∷ []

-- of every blob and component
pub record Images : Type 0 where
  -- accepted exactly when it is an image
  pub exactly : (b : List ℕ) → (Css.number b ≡ 0) ↔ IsImage b
  pub parts : (b : List ℕ) → Css.number b ≡ 0 → ImageParts b
  -- '.. and says truncated': exactly where it is accepted and short of 4s
  pub truncated :
      (which : Component) (b : List ℕ)
      → ((Css.located which b).truncated ≡ true) ↔ ((Css.number b ≡ 0) × (length b < 4 * s b))
  -- one judgement: each component's location, the answer alone and the reading have one number
  pub same_number : (which : Component) (b : List ℕ) → (Css.located which b).code ≡ Css.number b
  pub same_answer :
      (which : Component) (b : List ℕ)
      → ((Css.answer b).code ≡ (Css.located which b).code) × ((Css.answer b).truncated ≡ (Css.located which b).truncated)
  pub same_reading : (b : List ℕ) → (css_reading b).number ≡ Css.number b
  -- 'a refused location gives the empty part at the start of the lent blob ..', 'a refused version reading no version'
  pub refused : (which : Component) (b : List ℕ) → (Css.number b ≡ 0 → ⊥) → EmptyAtStart (Css.number b) (Css.located which b)
  pub no_version_fact : (b : List ℕ) → (Css.number b ≡ 0 → ⊥) → (css_reading b).version ≡ []
  -- what is located lies in the blob
  pub within : (which : Component) (b : List ℕ) → end_of (Css.located which b) ≤ length b
  -- 'Each component is handed back as that part of the lent blob', by each function whose contract has it
  pub very_bytes :
      (which : Component) (blob part : Bor (List ℕ)) → PartOf blob (Css.part which blob.now) part
      → VeryBytes blob (Css.located which blob.now) part
