-- Firmware for C: an answer, a part as its number, start and length, a part copied out, and a version as a struct of
-- numbers.
use Rattle.std.specs.Prelude.{ℕ, Bool, cond, List, ◌++◌, eqb, ltb, length, get_or, drop}
use Rattle.std.proofs.Math.Option.{Option, none, some, Option-elim}
use Rattle.firmware.specs.Bytes.{Location, bytes}
use Rattle.firmware.specs.Css
use Rattle.firmware.specs.Cpd
use Rattle.firmware.specs.Inside.{huc_located, huc_number, huc_span, huc_truncated}
use Rattle.firmware.specs.Version.{Reading}
use Rattle.firmware.specs.declared.css.Component.{Component}
use Rattle.firmware.specs.declared.css.Component.TheVariants.{Ucode, Rsa, Modulus, Exponent}
use Rattle.guc.specs.Messages.{no_such}
use Rattle.guc.specs.declared.parts.Image.{Image}
use Rattle.guc.specs.declared.parts.Part.{Part}
use Rattle.guc.specs.declared.parts.Copied.{Copied}
use Rattle.guc.specs.declared.versions.Version.{Version}
use Rattle.guc.specs.declared.versions.Manifest.{Manifest}

-- the interface's own number: the destination is too short
abbrev pub no_room : ℕ
no_room = 100

-- truncated as 0 or 1
abbrev pub flag : Bool → ℕ
flag t = cond t 1 0

-- an answer
abbrev pub image_by : ℕ → Bool → Image
image_by n truncated = record { code = n; truncated = flag truncated }

-- the component of a number: 0 uCode, 1 RSA, 2 modulus, 3 exponent
unfoldable pub component_of : ℕ → Option Component
component_of n =
    cond (eqb n 0) (some Ucode) (cond (eqb n 1) (some Rsa) (cond (eqb n 2) (some Modulus) (cond (eqb n 3) (some Exponent) none)))

-- where a part lies, as its one judgement says it
abbrev pub part_by : Location → Part
part_by l = record { code = l.code; truncated = flag l.truncated; start = l.start; len = l.len }

abbrev pub no_part : Part
no_part = record { code = no_such; truncated = 0; start = 0; len = 0 }

unfoldable pub css_part : ℕ → List ℕ → Part
css_part n b = Option-elim (component_of n) no_part (λ c. part_by (Css.located c b))

unfoldable pub huc_part : ℕ → List ℕ → Part
huc_part n b = Option-elim (component_of n) no_part (λ c. part_by (huc_located c b))

unfoldable pub cpd_part : List ℕ → List ℕ → Part
cpd_part b name = part_by (Cpd.located b name)

-- a part copied out: the answer and the destination afterwards
pub record CopiedOut : Type 0 where
  pub answer : Copied
  pub destination : List ℕ

abbrev pub copied : Copied → List ℕ → CopiedOut
copied r dst = record { answer = r; destination = dst }

abbrev pub not_copied : ℕ → ℕ → ℕ → List ℕ → CopiedOut
not_copied n t l dst = record { answer = record { code = n; truncated = t; len = l }; destination = dst }

-- refused, or the destination is too short: nothing is written, and in the second case the length is what is needed
unfoldable pub copied_by : ℕ → ℕ → List ℕ → List ℕ → CopiedOut
copied_by n t part dst =
    cond (eqb n 0)
    (cond (ltb (length dst) (length part)) (not_copied no_room t (length part) dst)
    (record { answer = record { code = 0; truncated = t; len = length part }; destination = part ++ drop (length part) dst }))
    (not_copied n t 0 dst)

unfoldable pub css_copy : ℕ → List ℕ → List ℕ → CopiedOut
css_copy n b dst =
    Option-elim (component_of n) (not_copied no_such 0 0 dst)
    (λ c. copied_by (Css.number b) (flag (Css.truncated b)) (bytes b (Css.part c b)) dst)

unfoldable pub huc_copy : ℕ → List ℕ → List ℕ → CopiedOut
huc_copy n b dst =
    Option-elim (component_of n) (not_copied no_such 0 0 dst)
    (λ c. copied_by (huc_number b) (flag (huc_truncated b)) (bytes b (huc_span c b)) dst)

-- an entry's part is of no image
unfoldable pub cpd_copy : List ℕ → List ℕ → List ℕ → CopiedOut
cpd_copy b name dst = copied_by (Cpd.number b name) 0 (bytes b (Cpd.part b name)) dst

-- a version reading: its number and numbers, zeros where it is refused
unfoldable pub version_by : Reading → Version
version_by x = record { code = x.number; major = get_or x.version 0 0; minor = get_or x.version 1 0; patch = get_or x.version 2 0 }

unfoldable pub manifest_by : Reading → Manifest
manifest_by x =
    record {
      code = x.number;
      major = get_or x.version 0 0;
      minor = get_or x.version 1 0;
      hotfix = get_or x.version 2 0;
      build = get_or x.version 3 0;
    }
