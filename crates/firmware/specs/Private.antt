-- What the crate's private functions answer, in the definitions of Css, Cpd and Version. No public contract cites
-- these.
use Rattle.std.specs.Prelude.{ℕ, ◌+◌, ◌-◌, ◌*◌, ◌<◌, ◌^◌, ◌≡◌, Bool, false, cond, List, length, get_or, eqb, leb, ltb, Result, Ok, Err}
use Rattle.refusal.specs.declared.Refusal.{Refusal}
use Rattle.refusal.specs.Numbers.{number}
use Rattle.firmware.specs.Bytes.{Location, Span, dword_at, nowhere, located_at, of_located, then}
use Rattle.firmware.specs.Css
use Rattle.firmware.specs.Cpd
use Rattle.firmware.specs.Figures.{directory_figures}
use Rattle.firmware.specs.Version.{Reading, reading, manifest_version}
use Rattle.firmware.specs.declared.bytes.Located.{Located}
use Rattle.firmware.specs.declared.css.Sizes.{Sizes}
use Rattle.firmware.specs.declared.css.Component.{Component}
use Rattle.firmware.specs.declared.css.Component.TheVariants.{Ucode, Rsa, Modulus, Exponent}
use Rattle.firmware.specs.declared.cpd.Table.{Table}
use Rattle.firmware.specs.declared.cpd.NoTable.{NoTable}

-- sizes that are dwords
pub record Small (z : Sizes) : Type 0 where
  pub h-small : z.h < 2 ^ 32
  pub s-small : z.s < 2 ^ 32
  pub k-small : z.k < 2 ^ 32
  pub m-small : z.m < 2 ^ 32
  pub e-small : z.e < 2 ^ 32

-- the judgement of every blob of n bytes whose header says those sizes
abbrev pub LocatedBy : ℕ → Sizes → Component → Result Located Refusal → Type 0
LocatedBy n z which r = (b : List ℕ) → length b ≡ n → Css.sizes b ≡ z → of_located r ≡ Css.located which b

-- which of the four a component is, in their order
abbrev pub rank : Component → ℕ
rank Ucode = 0
rank Rsa = 1
rank Modulus = 2
rank Exponent = 3

-- twelve bytes that are a name's, zero padded
abbrev pub Keyed : List ℕ → List ℕ → Type 0
Keyed name key = (j : ℕ) → j < 12 → get_or key j 0 ≡ get_or name j 0

-- eight bytes as one number, the first eight of a name
unfoldable pub front_at : List ℕ → ℕ → ℕ
front_at b at = dword_at b at + 2 ^ 32 * dword_at b (at + 4)

-- a directory's number, where its entries start and how many they are, and the bytes that the number asks for
pub record TableRead : Type 0 where
  pub code : ℕ
  pub start : ℕ
  pub count : ℕ
  pub needed : ℕ

unfoldable pub table_of : List ℕ → TableRead
table_of b = record {
  code = Cpd.directory_number b;
  start = cond (eqb (Cpd.directory_number b) 0) (Cpd.header_length b) 0;
  count = cond (eqb (Cpd.directory_number b) 0) (Cpd.count b) 0;
  needed = (directory_figures b).needed;
}

-- an answer in code as such a directory
abbrev pub of_table : Result Table NoTable → TableRead
of_table (Ok t) = record { code = 0; start = t.start; count = t.count; needed = t.needed }
of_table (Err e) = record { code = number e.refusal; start = 0; count = 0; needed = e.needed }

-- a part of a blob of n bytes, of an entry whose name is said to be shared or not: 22, then 21
unfoldable pub part_judged : ℕ → Span → Bool → Location
part_judged n p shared =
    let k : ℕ = cond shared 22 (cond (ltb n p.to) 21 0) in
    located_at k false (cond (eqb k 0) p nowhere)

-- entry i, said to share its name or not
unfoldable pub entry_judged : List ℕ → ℕ → Bool → Location
entry_judged b i shared =
    let k : ℕ = then (Cpd.directory_number b) (cond (leb (Cpd.count b) i) 20 (cond shared 22 (Cpd.part_number b i))) in
    located_at k false (cond (eqb k 0) (Cpd.entry_part b (Cpd.entry_start b i)) nowhere)

-- of count entries from byte start, the first from entry `from` on that has the name, or where there is none the one
-- behind them (from, where that is behind them already)
unfoldable pub walked : List ℕ → List ℕ → ℕ → ℕ → ℕ → ℕ
walked b name start count from = Cpd.first_from (λ i. Cpd.agrees b name (start + 24 * i)) from (count - from)

-- a location in a part that starts at byte at: one that is not shown starts at byte 0
unfoldable pub outer : ℕ → Location → Location
outer at l = cond (eqb l.start 0) l (record { code = l.code; truncated = l.truncated; start = at + l.start; len = l.len })

-- the version in the bytes of a manifest
unfoldable pub manifest_in : List ℕ → Reading
manifest_in m = reading (cond (ltb (length m) 44) 15 0) (manifest_version m)
