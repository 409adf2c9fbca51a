-- Numbers in a blob, parts of a lent blob, and numbers that are judged one after another (document 01, 'Firmware
-- images' and 'The numbers that say no').
use Rattle.std.specs.Prelude.{ℕ, ◌+◌, ◌-◌, ◌*◌, ◌≡◌, Bool, false, cond, List, get_or, take, drop, eqb, Result, Ok, Err}
use Rattle.std.specs.Borrow.{Bor}
use Rattle.refusal.specs.declared.Refusal.{Refusal}
use Rattle.refusal.specs.Numbers.{number}
use Rattle.firmware.specs.declared.bytes.Located.{Located}

-- 'All numbers are little-endian.': the number of two bytes, and of four, from byte at on
unfoldable pub word_at : List ℕ → ℕ → ℕ
word_at b at = get_or b at 0 + 0x100 * get_or b (at + 1) 0

unfoldable pub dword_at : List ℕ → ℕ → ℕ
dword_at b at = get_or b at 0 + 0x100 * get_or b (at + 1) 0 + 0x10000 * get_or b (at + 2) 0 + 0x1000000 * get_or b (at + 3) 0

-- a part of a blob: from byte `from` to byte `to`, which is excluded
pub record Span : Type 0 where
  pub from : ℕ
  pub to : ℕ

abbrev pub span : ℕ → ℕ → Span
span start end = record { from = start; to = end }

-- 'the empty part at the start of the lent blob', which a refused location gives
abbrev pub nowhere : Span
nowhere = span 0 0

-- the bytes of a part
abbrev pub bytes : List ℕ → Span → List ℕ
bytes b p = take (p.to - p.from) (drop p.from b)

-- 'handed back as that part of the lent blob': r has its bytes, and lies where they lie in the memory of b
pub record PartOf (b : Bor (List ℕ)) (p : Span) (r : Bor (List ℕ)) : Type 0 where
  pub same_bytes : r.now ≡ bytes b.now p
  pub same_block : r.ref_ptr.0 ≡ b.ref_ptr.0
  pub same_start : r.ref_ptr.1 ≡ p.from + b.ref_ptr.1

-- what one judgement says of a part: 0 or the number that refuses it, whether its image is truncated, and the part's
-- first byte and length
pub record Location : Type 0 where
  pub code : ℕ
  pub truncated : Bool
  pub start : ℕ
  pub len : ℕ

-- a part by its first byte and length, beside the number that its judgement gives and whether that says truncated
abbrev pub located_at : ℕ → Bool → Span → Location
located_at n truncated p = record { code = n; truncated = truncated; start = p.from; len = p.to - p.from }

-- an answer in code as such a judgement: one that is refused is nowhere, and says no truncated
abbrev pub of_located : Result Located Refusal → Location
of_located (Ok l) = record { code = 0; truncated = l.truncated; start = l.start; len = l.len }
of_located (Err r) = located_at (number r) false nowhere

-- a number, or where it is 0 the one that is judged after it
abbrev pub then : ℕ → ℕ → ℕ
then number after = cond (eqb number 0) after number
