-- Bytes needed and bytes there beside a number (ours, for what a crew is told; document 02's T-04 asks for them: 'with
-- bytes needed and there, counted from the start of the blob or part judged, for 15, 17, 19 and 21').
use Rattle.std.specs.Prelude.{ℕ, ◌+◌, ◌-◌, ◌*◌, cond, List, length, eqb, leb, ltb}
use Rattle.firmware.specs.Css
use Rattle.firmware.specs.Cpd
use Rattle.firmware.specs.Inside.{manifest_name, huc_name, part_named, huc_blob, manifest_number}
use Rattle.firmware.specs.declared.css.Sizes.{Sizes}
use Rattle.firmware.specs.declared.figures.Figures.{Figures}
use Rattle.refusal.specs.Numbers.{number_of}

-- a number with its figures: the bytes that it asks for, those that nothing is left out of (as far as they are known:
-- beside 15 the header's), and those that are there
pub record Measures : Type 0 where
  pub code : ℕ
  pub needed : ℕ
  pub complete : ℕ
  pub there : ℕ

abbrev pub figures : ℕ → ℕ → ℕ → ℕ → Measures
figures n needed complete there = record { code = n; needed = needed; complete = complete; there = there }

-- an answer in code as such a number
abbrev pub of_figures : Figures → Measures
of_figures f = figures (number_of f.answer) f.needed f.complete f.there

-- the bytes of a header by whose lack a blob is 15
abbrev pub short : ℕ → ℕ → Measures
short needed there = figures 15 needed needed there

-- a number that asks for no bytes, or of which none are counted here
abbrev pub unmeasured : ℕ → ℕ → Measures
unmeasured n there = figures n 0 0 there

-- a number that is given exactly when fewer bytes are there than needed, else 0
unfoldable pub measured : ℕ → ℕ → ℕ → ℕ → Measures
measured n needed complete there = figures (cond (ltb there needed) n 0) needed complete there

-- 'Bytes 128 + 4(s - h) + 4k must be there', 4s of a whole image
abbrev pub image_needs : Sizes → ℕ
image_needs z = 128 + 4 * (z.s - z.h) + 4 * z.k

-- an image: 15 asks for 128 bytes, 16 for none, 17 and 0 for header, uCode and RSA
unfoldable pub image_figures : List ℕ → Measures
image_figures b =
    cond (eqb (Css.number b) 15) (short 128 (length b))
    (cond (eqb (Css.number b) 16) (unmeasured 16 (length b))
    (figures (Css.number b) (image_needs (Css.sizes b)) (4 * (Css.sizes b).s) (length b)))

-- a directory: 15 asks for 20 bytes, 18 for none, 19 and 0 for 'H + 24n bytes'
abbrev pub entries_end : List ℕ → ℕ
entries_end b = Cpd.header_length b + 24 * Cpd.count b

unfoldable pub directory_figures : List ℕ → Measures
directory_figures b =
    cond (eqb (Cpd.directory_number b) 15) (short 20 (length b))
    (cond (eqb (Cpd.directory_number b) 18) (unmeasured 18 (length b))
    (figures (Cpd.directory_number b) (entries_end b) (entries_end b) (length b)))

-- entry i by its index: the directory's own figures, 20 asks for none, 21 and 0 for the bytes up to the end of its part
abbrev pub part_end : List ℕ → ℕ → ℕ
part_end b i = (Cpd.entry_part b (Cpd.entry_start b i)).to

unfoldable pub entry_figures : List ℕ → ℕ → Measures
entry_figures b i =
    cond (eqb (Cpd.directory_number b) 0)
    (cond (leb (Cpd.count b) i) (unmeasured 20 (length b)) (figures (Cpd.part_number b i) (part_end b i) (part_end b i) (length b)))
    (directory_figures b)

-- the manifest: '44 bytes are needed' of the part; where that is not handed out nothing is measured
unfoldable pub manifest_figures : List ℕ → Measures
manifest_figures b =
    cond (eqb (Cpd.number b manifest_name) 0)
    (figures (manifest_number b) 44 44 (length (part_named b manifest_name)))
    (unmeasured (Cpd.number b manifest_name) 0)

-- the image in `huc_fw`, 'as a blob of its own'; where that is not handed out nothing is measured
unfoldable pub huc_figures : List ℕ → Measures
huc_figures b =
    cond (eqb (Cpd.number b huc_name) 0)
    (image_figures (huc_blob b))
    (unmeasured (Cpd.number b huc_name) 0)

-- the sizes that the header of an image says, agreeing or not; none where there is no header
unfoldable pub header_sizes : List ℕ → Sizes
header_sizes b = cond (ltb (length b) 128) (record { h = 0; s = 0; k = 0; m = 0; e = 0 }) (Css.sizes b)
