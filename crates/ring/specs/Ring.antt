-- The buffer and its descriptor (document 01, 'The channel').
use Rattle.std.specs.Prelude.{ℕ, ◌+◌, ◌-◌, ◌%◌, Bool, ◌&&◌, List, get_or, eqb, leb}

-- 'The buffer is N dwords, N a multiple of 1,024 from 1,024 to 16,384'
unfoldable pub allowed : ℕ → Bool
allowed n = eqb (n % 1024) 0 && leb 1024 n && leb n 16384

-- 'The descriptor is 16 dwords: 0 HEAD, 1 TAIL, 2 STATUS, 3 to 15 reserved.'
abbrev pub HEAD : ℕ
HEAD = 0

abbrev pub TAIL : ℕ
TAIL = 1

abbrev pub STATUS : ℕ
STATUS = 2

abbrev pub head : List ℕ → ℕ
head desc = get_or desc HEAD 0

abbrev pub tail : List ℕ → ℕ
tail desc = get_or desc TAIL 0

abbrev pub status : List ℕ → ℕ
status desc = get_or desc STATUS 0

-- 'used = (TAIL - HEAD) mod N': the difference is taken N higher, of offsets below N, so that it is not negative
unfoldable pub used : ℕ → ℕ → ℕ → ℕ
used n hd tl = (tl + n - hd) % n

-- 'free = N - 1 - used'
unfoldable pub free : ℕ → ℕ → ℕ → ℕ
free n hd tl = n - 1 - used n hd tl

-- 'STATUS: 0 good, 1 overflow (offset too large), 2 underflow (truncated), 4 mismatch (offset modified), 8 unused.'
abbrev pub good : ℕ
good = 0

abbrev pub overflow : ℕ
overflow = 1

abbrev pub underflow : ℕ
underflow = 2

abbrev pub mismatch : ℕ
mismatch = 4
