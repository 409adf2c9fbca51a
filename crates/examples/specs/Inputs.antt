-- What the worked examples start from: messages, descriptors, buffers, images and directories that have the paper's
-- figures.
use Rattle.std.specs.Prelude.{ℕ, zero, suc, ◌+◌, ◌-◌, ◌/◌, ◌%◌, ◌^◌, List, [], ◌∷◌, ◌++◌, length, replicate}
use Rattle.message.specs.declared.Origin.{Origin}
use Rattle.message.specs.declared.Body.{Body}
use Rattle.message.specs.declared.Message.{Message}
use Rattle.firmware.specs.Inside.{manifest_name, huc_name}

-- ---- messages

-- a message before it is packed, or unpacked: its origin, fence, NUM_DWORDS and body
abbrev pub message : Origin → ℕ → ℕ → Body → Message
message from number after b = record { origin = from; fence = number; num_dwords = after; body = b }

-- the n numbers from i on
unfoldable pub count_up : ℕ → ℕ → List ℕ
count_up i zero = []
count_up i (suc n) = i ∷ count_up (suc i) n

-- a well-formed message of L dwords: a header with fence 0x1234, the HXG word of a request, and then 2, 3, 4 and so on
unfoldable pub dwords : ℕ → List ℕ
dwords l = (0x12340000 + (l - 1)) ∷ 0x00000000 ∷ count_up 2 (l - 2)

-- a message of two dwords by its HXG word
abbrev pub two_dwords : ℕ → List ℕ
two_dwords word = 0x12340001 ∷ word ∷ []

-- ---- the channel, at N = 1,024

-- a descriptor by its HEAD, TAIL and STATUS; its reserved words are not 0
unfoldable pub descriptor_with : ℕ → ℕ → ℕ → List ℕ
descriptor_with hd tl st = hd ∷ tl ∷ st ∷ replicate 13 0xDDDDDDDD

-- n dwords of a buffer that nothing was stored in
abbrev pub untouched : ℕ → List ℕ
untouched n = replicate n 0xBBBBBBBB

unfoldable pub buffer : List ℕ
buffer = untouched 1024

-- the same with some dwords from place 8 on, and with a header alone
unfoldable pub buffer_of : List ℕ → List ℕ
buffer_of front = untouched 8 ++ front ++ untouched (1016 - length front)

unfoldable pub buffer_with : ℕ → List ℕ
buffer_with header = buffer_of (header ∷ [])

-- ---- firmware

-- the four bytes of a dword, little-endian, and those of several
abbrev pub little : ℕ → List ℕ
little w = w % 2 ^ 8 ∷ w / 2 ^ 8 % 2 ^ 8 ∷ w / 2 ^ 16 % 2 ^ 8 ∷ w / 2 ^ 24 ∷ []

unfoldable pub littles : List ℕ → List ℕ
littles [] = []
littles (w ∷ ws) = little w ++ littles ws

-- a dword of a CSS header that says nothing about sizes
abbrev pub other : ℕ
other = 0xEEEEEEEE

-- the CSS header: h 161 in dword 1, s 1,161 in dword 6, k 64, m 64 and e 1 in dwords 7, 8 and 9
unfoldable pub css_header : List ℕ
css_header =
    littles (other ∷ 161 ∷ other ∷ other ∷ other ∷ other ∷ 1161 ∷ 64 ∷ 64 ∷ 1 ∷ replicate 22 other)

-- an image of n bytes, at least 128, with that header
unfoldable pub image : ℕ → List ℕ
image n = css_header ++ replicate (n - 128) 0xCC

-- an entry of a directory: its name, and where its part starts and how long it is
unfoldable pub entry_bytes : List ℕ → ℕ → ℕ → List ℕ
entry_bytes name start long = name ++ replicate (12 - length name) 0 ++ littles (start ∷ long ∷ 0 ∷ [])

-- a directory with H 20 that counts n entries, and these bytes after its header
unfoldable pub directory_of : ℕ → List ℕ → List ℕ
directory_of n entries = (0x24 ∷ 0x43 ∷ 0x50 ∷ 0x44 ∷ []) ++ little n ++ (0 ∷ 0 ∷ 20 ∷ []) ++ replicate 9 0 ++ entries

-- one with n 2 and nothing after its entries; its second entry is `huc_fw`, whose part is at 68
unfoldable pub directory : ℕ → List ℕ
directory long = directory_of 2 (entry_bytes manifest_name 68 0 ++ entry_bytes huc_name 68 long)
