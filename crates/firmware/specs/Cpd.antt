-- Code partition directories (document 01, 'Firmware images', and document 02, T-03): seeking a name, and where its
-- part lies.
use Rattle.std.specs.Prelude.{ℕ, zero, suc, ◌+◌, ◌*◌, ◌%◌, ◌^◌, Bool, true, false, not, ◌&&◌, cond, List, length, get_or, eqb, leb, ltb, Result, Ok, Err}
use Rattle.refusal.specs.declared.Refusal.{Refusal}
use Rattle.refusal.specs.Numbers
use Rattle.firmware.specs.Bytes.{Location, Span, dword_at, span, nowhere, located_at, then}
use Rattle.firmware.specs.declared.cpd.Directory.{Directory}

-- whether p holds of every number below n
unfoldable pub all : (ℕ → Bool) → ℕ → Bool
all p zero = true
all p (suc n) = all p n && p n

-- the first of the n numbers from i on of which p holds, or the number after them
unfoldable pub first_from : (ℕ → Bool) → ℕ → ℕ → ℕ
first_from p i zero = i
first_from p i (suc n) = cond (p i) i (first_from p (suc i) n)

-- of how many of the n numbers from i on p holds
unfoldable pub count_from : (ℕ → Bool) → ℕ → ℕ → ℕ
count_from p i zero = 0
count_from p i (suc n) = cond (p i) 1 0 + count_from p (suc i) n

-- a name to seek has '1 to 12 bytes without a zero'
abbrev pub nonzero : List ℕ → ℕ → Bool
nonzero name j = not (eqb (get_or name j 0) 0)

unfoldable pub is_name : List ℕ → Bool
is_name name = leb 1 (length name) && leb (length name) 12 && all (nonzero name) (length name)

-- 'bytes 0 to 3 are 24 43 50 44 hex; entry count n is the dword at 4; header length H is the byte at 10'
unfoldable pub has_marker : List ℕ → Bool
has_marker b = eqb (get_or b 0 0) 0x24 && eqb (get_or b 1 0) 0x43 && eqb (get_or b 2 0) 0x50 && eqb (get_or b 3 0) 0x44

abbrev pub count : List ℕ → ℕ
count b = dword_at b 4

abbrev pub header_length : List ℕ → ℕ
header_length b = get_or b 10 0

-- 15 'at least 20 bytes', 18 'CPD marker wrong or header length below 20', 19 'H + 24n bytes must be there'
unfoldable pub directory_number : List ℕ → ℕ
directory_number b =
    cond (ltb (length b) 20) 15
    (cond (not (has_marker b && leb 20 (header_length b))) 18 (cond (ltb (length b) (header_length b + 24 * count b)) 19 0))

-- 'Entries start at byte H': the byte where entry i starts
abbrev pub entry_start : List ℕ → ℕ → ℕ
entry_start b i = header_length b + 24 * i

-- 'An entry: name 12 bytes (zero padded), offset dword (bits 24:0 count), length dword, 4 reserved bytes.', of the
-- entry at byte at
abbrev pub offset : List ℕ → ℕ → ℕ
offset b at = dword_at b (at + 12) % 2 ^ 25

abbrev pub size : List ℕ → ℕ → ℕ
size b at = dword_at b (at + 16)

-- 'Its part starts at the offset from the blob's start.'
abbrev pub entry_part : List ℕ → ℕ → Span
entry_part b at = span (offset b at) (offset b at + size b at)

-- whether its twelve bytes agree with the name, zero padded
abbrev pub agrees : List ℕ → List ℕ → ℕ → Bool
agrees b name at = all (λ j. eqb (get_or b (at + j) 0) (get_or name j 0)) 12

-- whether entry i has that name
abbrev pub has_name : List ℕ → List ℕ → ℕ → Bool
has_name b name i = agrees b name (entry_start b i)

-- 'The walk ends at the first entry whose twelve bytes agree.': its index, or n where there is none. Since T-03 the
-- walk goes on, so that a seek answers it only where it is the only one
unfoldable pub first_entry : List ℕ → List ℕ → ℕ
first_entry b name = first_from (has_name b name) 0 (count b)

-- T-03: 'the walk now goes on to the last entry': how many of the n entries have the name, whatever else is in them
unfoldable pub entries_named : List ℕ → List ℕ → ℕ
entries_named b name = count_from (has_name b name) 0 (count b)

-- 21 'entry's part lies beyond the blob', of entry i
abbrev pub part_number : List ℕ → ℕ → ℕ
part_number b i = cond (ltb (length b) (entry_part b (entry_start b i)).to) 21 0

-- 14 'name to seek not 1 to 12 bytes without a zero'; 15, 18 and 19; 20 'no entry of that name'; T-03: 'Seeking a name
-- must refuse with a new number 22 when more than one entry has it, tested after 20 and before 21'; 21 of the one entry
-- that has it
unfoldable pub number : List ℕ → List ℕ → ℕ
number b name =
    cond (not (is_name name)) 14
    (then (directory_number b)
    (cond (eqb (entries_named b name) 0) 20 (cond (ltb 1 (entries_named b name)) 22 (part_number b (first_entry b name)))))

-- the part that is handed back for that name, or the empty part that a refusal gives
unfoldable pub part : List ℕ → List ℕ → Span
part b name = cond (eqb (number b name) 0) (entry_part b (entry_start b (first_entry b name))) nowhere

-- the whole judgement of a name sought
abbrev pub located : List ℕ → List ℕ → Location
located b name = located_at (number b name) false (part b name)

-- ours, for a list of all entries: entry i by its index: 15, 18 and 19, then 20 where there is no such entry, then 21.
-- No name is sought, so there is no 22
unfoldable pub entry_number : List ℕ → ℕ → ℕ
entry_number b i = then (directory_number b) (cond (leb (count b) i) 20 (part_number b i))

unfoldable pub entry_span : List ℕ → ℕ → Span
entry_span b i = cond (eqb (entry_number b i) 0) (entry_part b (entry_start b i)) nowhere

abbrev pub entry_located : List ℕ → ℕ → Location
entry_located b i = located_at (entry_number b i) false (entry_span b i)

-- ours: what a directory has, whatever is sought: its number and, where that is 0, how many entries
pub record Entries : Type 0 where
  pub code : ℕ
  pub count : ℕ

unfoldable pub entries_of : List ℕ → Entries
entries_of b = record { code = directory_number b; count = cond (eqb (directory_number b) 0) (count b) 0 }

-- an answer in code as such a one
abbrev pub of_directory : Result Directory Refusal → Entries
of_directory (Ok d) = record { code = 0; count = d.count }
of_directory (Err r) = record { code = Numbers.number r; count = 0 }

-- ours: where the twelve bytes of the name of entry i lie
unfoldable pub name_span : List ℕ → ℕ → Span
name_span b i = cond (ltb i (entries_of b).count) (span (entry_start b i) (entry_start b i + 12)) nowhere

-- ours: whether the name may be sought, there is an entry i, and it has that name
unfoldable pub entry_has : List ℕ → List ℕ → ℕ → Bool
entry_has b name i = is_name name && ltb i (entries_of b).count && has_name b name i
