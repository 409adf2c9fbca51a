-- Where each number of a CTB header and of an HXG dword 0 stands (document 01, 'Messages', and for the fast request
-- document 02, T-02): one table, and what it is to read a field of a dword and to put one there.
use Rattle.std.specs.Prelude.{ℕ, ◌+◌, ◌-◌, ◌*◌, ◌/◌, ◌%◌, ◌^◌, Bool, true, ◌&&◌, List, [], ◌∷◌, eqb, ltb}

pub data Field : Type 0 where
  fence : Field
  format : Field
  reserved : Field
  num_dwords : Field
  origin : Field
  type : Field
  request_data : Field
  request_action : Field
  event_data : Field
  event_action : Field
  fast_request_data : Field
  fast_request_action : Field
  busy_counter : Field
  retry_reason : Field
  failure_hint : Field
  failure_error : Field
  success_data : Field

-- the highest and the lowest bit of a field, as in '31:16'
pub record Bits : Type 0 where
  pub high : ℕ
  pub low : ℕ

abbrev pub bits : ℕ → ℕ → Bits
bits h l = record { high = h; low = l }

-- THE TABLE: name, high bit, low bit.
abbrev pub bits_of : Field → Bits
-- 'CTB header: fence 31:16, format 15:12, reserved 11:8, NUM_DWORDS 7:0.'
bits_of fence = bits 31 16
bits_of format = bits 15 12
bits_of reserved = bits 11 8
bits_of num_dwords = bits 7 0
-- 'HXG dword 0: origin bit 31 (0 host, 1 GuC); type 30:28; the rest by type'
bits_of origin = bits 31 31
bits_of type = bits 30 28
-- request: 'data 27:16, action 15:0'
bits_of request_data = bits 27 16
bits_of request_action = bits 15 0
-- event: 'data 27:16, action 15:0'
bits_of event_data = bits 27 16
bits_of event_action = bits 15 0
-- fast request: 'laid out as a request'
bits_of fast_request_data = bits 27 16
bits_of fast_request_action = bits 15 0
-- busy: 'counter 27:0'
bits_of busy_counter = bits 27 0
-- retry: 'reason 27:0'
bits_of retry_reason = bits 27 0
-- failure: 'hint 27:16, error 15:0'
bits_of failure_hint = bits 27 16
bits_of failure_error = bits 15 0
-- success: 'data 27:0'
bits_of success_data = bits 27 0

-- what 1 in a field counts in the dword
abbrev pub weight : Field → ℕ
weight f = 2 ^ (bits_of f).low

-- the numbers below it fit the field
abbrev pub limit : Field → ℕ
limit f = 2 ^ ((bits_of f).high + 1 - (bits_of f).low)

-- the number that a dword holds in a field
abbrev pub field_of : Field → ℕ → ℕ
field_of f w = w / weight f % limit f

-- a field and the number that it is to hold
abbrev pub FieldValue : Type 0
FieldValue = Field × ℕ

-- each number fits its field
unfoldable pub fit : List FieldValue → Bool
fit [] = true
fit (e ∷ es) = ltb e.1 (limit e.0) && fit es

-- the dword made of the fields: each number at its place
unfoldable pub dword : List FieldValue → ℕ
dword [] = 0
dword (e ∷ es) = e.1 * weight e.0 + dword es

-- a dword holds each of the numbers in its field
unfoldable pub holds : List FieldValue → ℕ → Bool
holds [] w = true
holds (e ∷ es) w = eqb (field_of e.0 w) e.1 && holds es w
