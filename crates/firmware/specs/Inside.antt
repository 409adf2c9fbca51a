-- Parts inside a directory (document 01, 'Firmware images', and 'The numbers that say no': 'a part inside a directory
-- is judged only after the directory's own numbers, 14 to 21, have passed', 22 among them since document 02's T-03:
-- 'The manifest and CSS readings inside a directory pass 22 on and promise it.').
use Rattle.std.specs.Prelude.{ℕ, ◌+◌, Bool, ◌&&◌, cond, List, [], ◌∷◌, length, eqb, ltb}
use Rattle.firmware.specs.Bytes.{Location, Span, span, nowhere, bytes, located_at, then}
use Rattle.firmware.specs.Css
use Rattle.firmware.specs.Cpd
use Rattle.firmware.specs.declared.css.Component.{Component}

-- `HUCP.man` and `huc_fw`, in ASCII
abbrev pub manifest_name : List ℕ
manifest_name = 0x48 ∷ 0x55 ∷ 0x43 ∷ 0x50 ∷ 0x2E ∷ 0x6D ∷ 0x61 ∷ 0x6E ∷ []

abbrev pub huc_name : List ℕ
huc_name = 0x68 ∷ 0x75 ∷ 0x63 ∷ 0x5F ∷ 0x66 ∷ 0x77 ∷ []

-- the bytes of the part of that name
abbrev pub part_named : List ℕ → List ℕ → List ℕ
part_named b name = bytes b (Cpd.part b name)

-- '`HUCP.man` is a manifest: .. 44 bytes are needed, else 15'
unfoldable pub manifest_number : List ℕ → ℕ
manifest_number b = then (Cpd.number b manifest_name) (cond (ltb (length (part_named b manifest_name)) 44) 15 0)

-- 'the part named by `huc_fw` is judged by the CSS rules as a blob of its own'
abbrev pub huc_blob : List ℕ → List ℕ
huc_blob b = part_named b huc_name

unfoldable pub huc_number : List ℕ → ℕ
huc_number b = then (Cpd.number b huc_name) (Css.number (huc_blob b))

unfoldable pub huc_truncated : List ℕ → Bool
huc_truncated b = eqb (Cpd.number b huc_name) 0 && Css.truncated (huc_blob b)

abbrev pub huc_answer : List ℕ → Css.Answer
huc_answer b = record { code = huc_number b; truncated = huc_truncated b }

-- a span in a part that starts at byte start, as one in the directory's blob
abbrev pub within : ℕ → Span → Span
within start p = span (start + p.from) (start + p.to)

-- where a component of that image lies in the directory's blob; 'the empty part at the start of the lent blob (the
-- outer one, inside a directory)'
unfoldable pub huc_span : Component → List ℕ → Span
huc_span which b =
    cond (eqb (Cpd.number b huc_name) 0 && Css.shown which (huc_blob b))
    (within (Cpd.part b huc_name).from (Css.span_of which (Css.sizes (huc_blob b))))
    nowhere

-- the whole judgement of the image of which that component is asked
abbrev pub huc_located : Component → List ℕ → Location
huc_located which b = located_at (huc_number b) (huc_truncated b) (huc_span which b)
