-- Packing and unpacking (document 01, 'Messages'), and what each answers by the paper's numbers.
use Rattle.std.specs.Prelude.{ℕ, ◌&&◌, cond, List, [], ◌∷◌, get_or, eqb, leb, Result, Ok, Err}
use Rattle.std.proofs.Math.Option.{Option, none, some, Option-elim}
use Rattle.message.specs.Fields.{fence, format, reserved, num_dwords, origin, field_of, FieldValue, fit, dword}
use Rattle.message.specs.Types.{body_fields, body_of}
use Rattle.message.specs.Header.{is_message}
use Rattle.message.specs.declared.Origin.{Origin}
use Rattle.message.specs.declared.Origin.TheVariants.{Host, Guc}
use Rattle.message.specs.declared.Body.{Body}
use Rattle.message.specs.declared.Message.{Message}
use Rattle.refusal.specs.declared.Refusal.{Refusal}
use Rattle.refusal.specs.Numbers.{number}

-- 'origin bit 31 (0 host, 1 GuC)', there and back
unfoldable pub origin_number : Origin → ℕ
origin_number Host = 0
origin_number Guc = 1

unfoldable pub origin_of : ℕ → Origin
origin_of bit = cond (eqb bit 0) Host Guc

-- 'Unpacked, a decoded message holds its origin, its fence and one of' the seven bodies, 'beside its NUM_DWORDS'
unfoldable pub decoded : ℕ → ℕ → Body → Message
decoded header word b =
    record {
      origin = origin_of (field_of origin word);
      fence = field_of fence header;
      num_dwords = field_of num_dwords header;
      body = b;
    }

-- 'Unpacking takes a whole message and refuses a malformed one': the decoded message, or none
unfoldable pub unpack : List ℕ → Option Message
unpack dwords =
    cond (is_message dwords)
    (Option-elim (body_of (get_or dwords 1 0)) none (λ b. some (decoded (get_or dwords 0 0) (get_or dwords 1 0) b)))
    none

-- the fields of the header and of the HXG dword 0, with a message's number for each
unfoldable pub header_fields : Message → List FieldValue
header_fields m = (fence, m.fence) ∷ (format, 0) ∷ (reserved, 0) ∷ (num_dwords, m.num_dwords) ∷ []

unfoldable pub hxg_fields : Message → List FieldValue
hxg_fields m = (origin, origin_number m.origin) ∷ body_fields m.body

-- 'Packing gives the first two dwords and refuses any field too wide for its place and NUM_DWORDS 0.'
unfoldable pub pack : Message → Option (ℕ × ℕ)
pack m =
    cond (leb 1 m.num_dwords && fit (header_fields m) && fit (hxg_fields m))
    (some (dword (header_fields m), dword (hxg_fields m)))
    none

-- an answer: 0 with what it gives, or a refusal's number with nothing
pub record Answer (A : Type 0) : Type 0 where
  pub number : ℕ
  pub value : Option A

unfoldable pub refusing : {A : Type 0} → ℕ → Option A → Answer A
refusing n none = record { number = n; value = none }
refusing n (some a) = record { number = 0; value = some a }

-- 'refuses a malformed one by 4'
abbrev pub unpack_answer : List ℕ → Answer Message
unpack_answer dwords = refusing 4 (unpack dwords)

-- 14 'field too wide, NUM_DWORDS 0'
abbrev pub pack_answer : Message → Answer (ℕ × ℕ)
pack_answer m = refusing 14 (pack m)

-- the paper's number and values for each case of the answers in code: 'A refused packing answers no dword, a refused
-- unpacking no message'
unfoldable pub of_unpacked : Result Message Refusal → Answer Message
of_unpacked (Err r) = record { number = number r; value = none }
of_unpacked (Ok m) = record { number = 0; value = some m }

unfoldable pub of_packed : Result (ℕ × ℕ) Refusal → Answer (ℕ × ℕ)
of_packed (Err r) = record { number = number r; value = none }
of_packed (Ok dwords) = record { number = 0; value = some dwords }
