-- Messages agree with the tables, packing and unpacking alike: what the customer's second demand asks of messages, for
-- every type at once.
use Rattle.std.specs.Prelude.{ℕ, ◌+◌, ◌≤◌, ◌<◌, ◌^◌, ◌≡◌, ◌↔◌, true, false, List, ◌∷◌, length, get_or}
use Rattle.std.proofs.Math.Option.{none, some}
use Rattle.message.specs.Fields.{format, reserved, num_dwords, type, request_data, request_action, field_of, holds}
use Rattle.message.specs.Types.{body_of, known}
use Rattle.message.specs.Header.{total_length, well_formed, is_message}
use Rattle.message.specs.Packing.{unpack, pack, header_fields, hxg_fields, pack_answer, unpack_answer}
use Rattle.message.specs.declared.Body.TheVariants.{FastRequest}
use Rattle.message.specs.declared.Message.{Message}

-- 'Well formed: format 0, reserved 0, NUM_DWORDS 1 to 255, and a known HXG type in the second dword', where 'only type
-- 4 stays unknown'
abbrev pub MendedRule : ℕ → ℕ → Type 0
MendedRule h w =
    (field_of format h ≡ 0) × (field_of reserved h ≡ 0) × (1 ≤ field_of num_dwords h) × (field_of num_dwords h ≤ 255)
    × (field_of type w ≡ 4 → ⊥)

pub record Agreement : Type 0 where
  -- what the calls answer, beside their number, is this
  pub packing-answers : (m : Message) → (pack_answer m).value ≡ pack m
  pub unpacking_answers : (d : List ℕ) → (unpack_answer d).value ≡ unpack d
  -- 'only type 4 stays unknown': the type of a dword is known exactly when it is not 4
  pub only_4_unknown : (w : ℕ) → (known w ≡ true) ↔ (field_of type w ≡ 4 → ⊥)
  -- 'type 2, a fast request, which wants no success reply and is laid out as a request': its data and action are read
  -- where a request's are
  pub fast_request :
      (w : ℕ) → field_of type w ≡ 2 → body_of w ≡ some (FastRequest (field_of request_data w) (field_of request_action w))
  -- 'Refusals 4 and 13 follow the mended rule': the two tests that they ask, as 3 does of a send's copy
  pub well_formed_fact : (h w : ℕ) → (well_formed h w ≡ true) ↔ MendedRule h w
  pub is_message_fact :
      (d : List ℕ)
      → (is_message d ≡ true) ↔ ((length d ≡ total_length (get_or d 0 0)) × MendedRule (get_or d 0 0) (get_or d 1 0))
  -- 'Unpacking takes a whole message and refuses a malformed one'
  pub accepts : (d : List ℕ) → is_message d ≡ true → (m : Message) × (unpack d ≡ some m)
  pub refuses : (d : List ℕ) → is_message d ≡ false → unpack d ≡ none
  -- what a message unpacks to is exactly what the table's fields of its first two dwords hold
  pub unpacks :
      (d : List ℕ) (m : Message)
      → (unpack d ≡ some m)
      ↔ ((is_message d ≡ true) × (holds (header_fields m) (get_or d 0 0) ≡ true) × (holds (hxg_fields m) (get_or d 1 0) ≡ true))
  -- what a message packs to are exactly the two dwords that hold its fields
  pub packs :
      (m : Message) (h w : ℕ) → h < 2 ^ 32 → w < 2 ^ 32
      → (pack m ≡ some (h, w))
      ↔ ((1 ≤ m.num_dwords) × (holds (header_fields m) h ≡ true) × (holds (hxg_fields m) w ≡ true))
  pub dwords : (m : Message) (h w : ℕ) → pack m ≡ some (h, w) → (h < 2 ^ 32) × (w < 2 ^ 32)
  -- 'Both ways agree on those two dwords': packed, then unpacked with any NUM_DWORDS - 1 dwords after the second
  pub there :
      (m : Message) (h w : ℕ) (rest : List ℕ) → pack m ≡ some (h, w) → length rest + 1 ≡ m.num_dwords
      → unpack (h ∷ w ∷ rest) ≡ some m
  -- unpacked, then packed
  pub back :
      (d : List ℕ) (m : Message) → get_or d 0 0 < 2 ^ 32 → get_or d 1 0 < 2 ^ 32 → unpack d ≡ some m
      → pack m ≡ some (get_or d 0 0, get_or d 1 0)
  -- and what packing refuses no message unpacks to
  pub never : (d : List ℕ) (m : Message) → pack m ≡ none → unpack d ≡ some m → ⊥
