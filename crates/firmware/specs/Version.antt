-- Versions (document 01, 'Firmware images'), and what each version reading answers by the paper's numbers.
use Rattle.std.specs.Prelude.{ℕ, ◌/◌, ◌%◌, ◌^◌, cond, List, [], ◌∷◌, eqb, Result, Ok, Err}
use Rattle.refusal.specs.declared.Refusal.{Refusal}
use Rattle.refusal.specs.Numbers.{number}
use Rattle.firmware.specs.Bytes.{word_at}
use Rattle.firmware.specs.Css
use Rattle.firmware.specs.Inside.{manifest_name, manifest_number, huc_number, huc_blob, part_named}
use Rattle.firmware.specs.declared.version.Version.{Version}
use Rattle.firmware.specs.declared.version.ManifestVersion.{ManifestVersion}

-- a reading: 0 with the version's numbers in their order, or the refusal's number; 'a refused version reading no
-- version'
pub record Reading : Type 0 where
  pub number : ℕ
  pub version : List ℕ

unfoldable pub reading : ℕ → List ℕ → Reading
reading n version = record { number = n; version = cond (eqb n 0) version [] }

-- 'version (major 23:16, minor 15:8, patch 7:0)', dword 16
abbrev pub css_version : List ℕ → List ℕ
css_version b = Css.header_dword b 16 / 2 ^ 16 % 2 ^ 8 ∷ Css.header_dword b 16 / 2 ^ 8 % 2 ^ 8 ∷ Css.header_dword b 16 % 2 ^ 8 ∷ []

-- 'Reading the version is refused by the same 15, 16 and 17.'
unfoldable pub css_reading : List ℕ → Reading
css_reading b = reading (Css.number b) (css_version b)

-- 'its firmware version is four 16-bit numbers (major, minor, hotfix, build) at byte 36'
abbrev pub manifest_version : List ℕ → List ℕ
manifest_version m = word_at m 36 ∷ word_at m 38 ∷ word_at m 40 ∷ word_at m 42 ∷ []

unfoldable pub manifest_reading : List ℕ → Reading
manifest_reading b = reading (manifest_number b) (manifest_version (part_named b manifest_name))

-- the version of the image in `huc_fw`
unfoldable pub huc_reading : List ℕ → Reading
huc_reading b = reading (huc_number b) (css_version (huc_blob b))

-- the paper's number and values for each case of the answers in code
unfoldable pub of_version : Result Version Refusal → Reading
of_version (Ok v) = record { number = 0; version = v.major ∷ v.minor ∷ v.patch ∷ [] }
of_version (Err r) = record { number = number r; version = [] }

unfoldable pub of_manifest : Result ManifestVersion Refusal → Reading
of_manifest (Ok v) = record { number = 0; version = v.major ∷ v.minor ∷ v.hotfix ∷ v.build ∷ [] }
of_manifest (Err r) = record { number = number r; version = [] }
