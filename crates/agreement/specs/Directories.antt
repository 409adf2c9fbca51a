-- Code partition directories agree with document 01, 'Firmware images', and document 02, T-03: the part of a name, and
-- the manifest and the image inside.
use Rattle.std.specs.Prelude.{ℕ, ◌+◌, ◌*◌, ◌%◌, ◌≤◌, ◌<◌, ◌^◌, ◌≡◌, ◌↔◌, true, false, List, [], ◌∷◌, length, get_or}
use Rattle.std.specs.Borrow.{Bor}
use Rattle.firmware.specs.Bytes.{PartOf, dword_at, nowhere, span, word_at}
use Rattle.firmware.specs.Css
use Rattle.firmware.specs.Cpd
use Rattle.firmware.specs.Inside.{manifest_name, huc_answer, huc_name, huc_number, huc_located, huc_span}
use Rattle.firmware.specs.Version.{css_reading, huc_reading, manifest_reading}
use Rattle.firmware.specs.declared.css.Component.{Component}
use Rattle.agreement.specs.Images.{At, EmptyAtStart, VeryBytes, bytes_of, end_of}

-- 'Entries start at byte H': the byte where entry i starts; 'header length H is the byte at 10'
abbrev pub entry_at : List ℕ → ℕ → ℕ
entry_at b i = get_or b 10 0 + 24 * i

-- 'whose twelve bytes agree': byte by byte with the name, 'zero padded'
abbrev pub HasName : List ℕ → List ℕ → ℕ → Type 0
HasName b name i = (j : ℕ) → j < 12 → get_or b (entry_at b i + j) 0 ≡ get_or name j 0

-- 'name to seek not 1 to 12 bytes without a zero': one that may be sought
pub record IsName (name : List ℕ) : Type 0 where
  pub one : 1 ≤ length name
  pub twelve : length name ≤ 12
  pub no_zero : (j : ℕ) → j < length name → get_or name j 0 ≡ 0 → ⊥

-- 'at least 20 bytes'; 'bytes 0 to 3 are 24 43 50 44 hex; entry count n is the dword at 4; header length H is the byte
-- at 10'; 'H + 24n bytes must be there'
pub record IsDirectory (b : List ℕ) : Type 0 where
  pub has_header : 20 ≤ length b
  pub marker_0 : get_or b 0 0 ≡ 0x24
  pub marker_1 : get_or b 1 0 ≡ 0x43
  pub marker_2 : get_or b 2 0 ≡ 0x50
  pub marker_3 : get_or b 3 0 ≡ 0x44
  pub header-length : 20 ≤ get_or b 10 0
  pub there : get_or b 10 0 + 24 * dword_at b 4 ≤ length b

-- 'offset dword (bits 24:0 count), length dword' of the entry at that byte
abbrev pub offset_at : List ℕ → ℕ → ℕ
offset_at b at = dword_at b (at + 12) % 2 ^ 25

abbrev pub size_at : List ℕ → ℕ → ℕ
size_at b at = dword_at b (at + 16)

-- where the part of entry i ends: 'Its part starts at the offset from the blob's start.'
abbrev pub part_end : List ℕ → ℕ → ℕ
part_end b i = offset_at b (entry_at b i) + size_at b (entry_at b i)

-- ours: an entry, by its index, that has a part in the blob
pub record EntryThere (b : List ℕ) (i : ℕ) : Type 0 where
  pub of_directory : IsDirectory b
  pub an_entry : i < dword_at b 4
  pub part-there : part_end b i ≤ length b

-- one of the n entries has a name that may be sought
pub record EntryNamed (b name : List ℕ) (i : ℕ) : Type 0 where
  pub may_be_sought : IsName name
  pub of_directory : IsDirectory b
  pub an_entry : i < dword_at b 4
  pub named : HasName b name i

-- it is the only one that has it
pub record OnlyNamed (b name : List ℕ) (i : ℕ) : Type 0 where
  pub entry : EntryNamed b name i
  pub only : (j : ℕ) → j < dword_at b 4 → HasName b name j → j ≡ i

-- what a seek accepts: the only entry that has the name, its part in the blob
pub record Found (b name : List ℕ) : Type 0 where
  pub i : ℕ
  pub alone : OnlyNamed b name i
  pub part-there : part_end b i ≤ length b

-- 20 'no entry of that name'
pub record NoneNamed (b name : List ℕ) : Type 0 where
  pub may_be_sought : IsName name
  pub of_directory : IsDirectory b
  pub none : (i : ℕ) → i < dword_at b 4 → HasName b name i → ⊥

-- 22 (T-03) 'when more than one entry has it': two of the n entries, whatever else is in them and wherever their parts
-- lie
pub record SharedName (b name : List ℕ) : Type 0 where
  pub i : ℕ
  pub j : ℕ
  pub apart : i < j
  pub entry-i : EntryNamed b name i
  pub entry-j : EntryNamed b name j

-- 21 'entry's part lies beyond the blob', of the only entry that has the name
pub record PartBeyond (b name : List ℕ) : Type 0 where
  pub i : ℕ
  pub alone : OnlyNamed b name i
  pub beyond : length b < part_end b i

-- the image in `huc_fw`, where the directory's own numbers pass, 'is judged by the CSS rules as a blob of its own'
pub record HucInside (b : List ℕ) (image : List ℕ) (start : ℕ) : Type 0 where
  pub number : huc_number b ≡ Css.number image
  pub reading : huc_reading b ≡ css_reading image
  pub component_number : (which : Component) → (huc_located which b).code ≡ (Css.located which image).code
  pub component_truncated : (which : Component) → (huc_located which b).truncated ≡ (Css.located which image).truncated
  pub component_length : (which : Component) → (huc_located which b).len ≡ (Css.located which image).len
  -- a component that is shown starts as many bytes past the part's start as it does past the image's; one that is not
  -- is at the outer blob's start
  pub component_start :
      (which : Component) → ((Css.located which image).start ≡ 0 → ⊥)
      → (huc_located which b).start ≡ start + (Css.located which image).start
  pub not_shown : (which : Component) → (Css.located which image).start ≡ 0 → (huc_located which b).start ≡ 0

-- the manifest's reading of a part: '44 bytes are needed, else 15'; 'four 16-bit numbers (major, minor, hotfix, build)
-- at byte 36'
pub record ManifestInside (b : List ℕ) (part : List ℕ) : Type 0 where
  pub too_short : length part < 44 → ((manifest_reading b).number ≡ 15) × ((manifest_reading b).version ≡ [])
  pub long_enough :
      44 ≤ length part
      → ((manifest_reading b).number ≡ 0)
      × ((manifest_reading b).version ≡ word_at part 36 ∷ word_at part 38 ∷ word_at part 40 ∷ word_at part 42 ∷ [])

-- of every blob and name
pub record Directories : Type 0 where
  -- accepted exactly when one entry has the name and its part is there
  pub exactly : (b name : List ℕ) → (Cpd.number b name ≡ 0) ↔ Found b name
  -- T-03: 'Seeking a name must refuse with a new number 22 when more than one entry has it, tested after 20 and before
  -- 21'
  pub none_named : (b name : List ℕ) → (Cpd.number b name ≡ 20) ↔ NoneNamed b name
  pub shared : (b name : List ℕ) → (Cpd.number b name ≡ 22) ↔ SharedName b name
  pub beyond : (b name : List ℕ) → (Cpd.number b name ≡ 21) ↔ PartBeyond b name
  pub part :
      (b name : List ℕ) (x : Found b name)
      → At (offset_at b (entry_at b x.i)) (size_at b (entry_at b x.i)) (Cpd.located b name)
  pub same_number : (b name : List ℕ) → (Cpd.located b name).code ≡ Cpd.number b name
  pub not_truncated : (b name : List ℕ) → (Cpd.located b name).truncated ≡ false
  -- 'a refused location gives the empty part at the start of the lent blob'
  pub refused : (b name : List ℕ) → (Cpd.number b name ≡ 0 → ⊥) → EmptyAtStart (Cpd.number b name) (Cpd.located b name)
  -- what is located lies in the blob, and is handed back as that part of it
  pub within : (b name : List ℕ) → end_of (Cpd.located b name) ≤ length b
  pub very_bytes :
      (name : List ℕ) (blob part : Bor (List ℕ)) → PartOf blob (Cpd.part blob.now name) part
      → VeryBytes blob (Cpd.located blob.now name) part
  -- ours, for a list of all entries: how many a directory has, each entry's part, and its twelve name bytes
  pub directory-exactly : (b : List ℕ) → ((Cpd.entries_of b).code ≡ 0) ↔ IsDirectory b
  pub entry-count : (b : List ℕ) → (Cpd.entries_of b).code ≡ 0 → (Cpd.entries_of b).count ≡ dword_at b 4
  pub entry : (b : List ℕ) (i : ℕ) → ((Cpd.entry_located b i).code ≡ 0) ↔ EntryThere b i
  pub entry-part :
      (b : List ℕ) (i : ℕ) → EntryThere b i → At (offset_at b (entry_at b i)) (size_at b (entry_at b i)) (Cpd.entry_located b i)
  pub entry_not_truncated : (b : List ℕ) (i : ℕ) → (Cpd.entry_located b i).truncated ≡ false
  pub entry-name :
      (b : List ℕ) (i : ℕ) → IsDirectory b → i < dword_at b 4 → Cpd.name_span b i ≡ span (entry_at b i) (entry_at b i + 12)
  pub no_entry-name :
      (b : List ℕ) (i : ℕ) → (IsDirectory b → i < dword_at b 4 → ⊥) → Cpd.name_span b i ≡ nowhere
  -- and whether it has a name that may be sought
  pub entry_has : (b name : List ℕ) (i : ℕ) → (Cpd.entry_has b name i ≡ true) ↔ EntryNamed b name i

-- what lies inside a directory, of every blob
pub record InsideDirectories : Type 0 where
  -- T-03: 'The manifest and CSS readings inside a directory pass 22 on and promise it.'
  pub manifest_shared : (b : List ℕ) → ((manifest_reading b).number ≡ 22) ↔ SharedName b manifest_name
  pub huc-shared : (which : Component) (b : List ℕ) → ((huc_located which b).code ≡ 22) ↔ SharedName b huc_name
  pub huc-shared-reading : (b : List ℕ) → ((huc_reading b).number ≡ 22) ↔ SharedName b huc_name
  -- 'a part inside a directory is judged only after the directory's own numbers, 14 to 21, have passed', 22 among them:
  -- until then they are the answer
  pub huc_outside :
      (which : Component) (b : List ℕ) → (Cpd.number b huc_name ≡ 0 → ⊥)
      → EmptyAtStart (Cpd.number b huc_name) (huc_located which b)
  pub huc_outside_reading :
      (b : List ℕ) → (Cpd.number b huc_name ≡ 0 → ⊥)
      → ((huc_reading b).number ≡ Cpd.number b huc_name) × ((huc_reading b).version ≡ [])
  pub huc-inside :
      (b : List ℕ) → Cpd.number b huc_name ≡ 0 → HucInside b (bytes_of b (Cpd.located b huc_name)) (Cpd.located b huc_name).start
  pub huc-answer :
      (which : Component) (b : List ℕ)
      → ((huc_answer b).code ≡ (huc_located which b).code) × ((huc_answer b).truncated ≡ (huc_located which b).truncated)
  pub huc-within : (which : Component) (b : List ℕ) → end_of (huc_located which b) ≤ length b
  pub huc_very_bytes :
      (which : Component) (blob part : Bor (List ℕ)) → PartOf blob (huc_span which blob.now) part
      → VeryBytes blob (huc_located which blob.now) part
  pub manifest_outside :
      (b : List ℕ) → (Cpd.number b manifest_name ≡ 0 → ⊥)
      → ((manifest_reading b).number ≡ Cpd.number b manifest_name) × ((manifest_reading b).version ≡ [])
  pub manifest_inside :
      (b : List ℕ) → Cpd.number b manifest_name ≡ 0 → ManifestInside b (bytes_of b (Cpd.located b manifest_name))
