-- Firmware files laid byte by byte, as document 01 lays them out ('Firmware images'). A byte that does not
-- fit is not laid.
use Rattle.std.specs.Prelude.{ℕ, ◌+◌, ◌/◌, ◌%◌, ◌^◌, cond, List, ◌++◌, length, take, drop, nat_le, slice_index, slice_set}
use Rattle.firmware.specs.Inside.{huc_name}
use Rattle.firmware.specs.declared.css.Sizes.{Sizes}

-- what is done to bytes
abbrev pub Laying : Type 0
Laying = List ℕ → List ℕ

-- the same done to those from byte `at` on; nothing where they end before it
unfoldable pub from : ℕ → Laying → Laying
from at lay s = cond (nat_le at (length s)) (take at s ++ lay (drop at s)) s

-- four bytes in front
unfoldable pub four : ℕ → ℕ → ℕ → ℕ → Laying
four a b c d s = slice_set (slice_set (slice_set (slice_set s 0 a) 1 b) 2 c) 3 d

-- 'All numbers are little-endian.': a dword at byte `at`
unfoldable pub dword : ℕ → ℕ → Laying
dword at v = from at (four (v % 0x100) (v / 0x100 % 0x100) (v / 0x10000 % 0x100) (v / 0x1000000))

-- four bytes of a name, zero padded, from byte j of it on, at byte j
unfoldable pub name_bytes : List ℕ → ℕ → Laying
name_bytes x j = from j (four (slice_index x j) (slice_index x (j + 1)) (slice_index x (j + 2)) (slice_index x (j + 3)))

-- 'name 12 bytes (zero padded)'
unfoldable pub name : List ℕ → Laying
name x s = name_bytes x 8 (name_bytes x 4 (name_bytes x 0 s))

-- 'Dwords: 1 = h .., 6 = s .., 7 = k .., 8 = m .., 9 = e .., 16 = version': an image's header, with the low 32 bits of
-- each size, of version 70.5.1
unfoldable pub header : Sizes → Laying
header z s =
    dword 64 0x460501
    (dword 36 (z.e % 2 ^ 32)
    (dword 32 (z.m % 2 ^ 32) (dword 28 (z.k % 2 ^ 32) (dword 24 (z.s % 2 ^ 32) (dword 4 (z.h % 2 ^ 32) s)))))

-- 'bytes 0 to 3 are 24 43 50 44 hex; entry count n is the dword at 4; header length H is the byte at 10'
unfoldable pub directory : ℕ → ℕ → Laying
directory n h s = slice_set (dword 4 n (dword 0 0x44504324 s)) 10 h

-- 'An entry: name 12 bytes (zero padded), offset dword .., length dword, 4 reserved bytes', which stay
unfoldable pub entry : List ℕ → ℕ → ℕ → Laying
entry x offset len s = dword 16 len (dword 12 offset (name x s))

-- a directory of two entries after a header of 20 bytes: a manifest of version 9.4.2.0 at byte 68 under the name given,
-- and an image at byte 112 as `huc_fw`; what the entries say of their lengths, and h, are given
unfoldable pub huc_directory : List ℕ → ℕ → ℕ → ℕ → Laying
huc_directory x manifestLength imageLength h s =
    from 112 (header (record { h = h; s = 40; k = 1; m = 1; e = 1 }))
    (dword 108 2 (dword 104 0x40009
    (from 44 (entry huc_name 112 imageLength) (from 20 (entry x 68 manifestLength) (directory 2 20 s)))))
