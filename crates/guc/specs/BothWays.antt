-- Both ways agree for C too, which has six numbers where `message` has a decoded message: what it unpacks packs again,
-- and what it packs unpacks again.
use Rattle.std.specs.Prelude.{ℕ, ◌+◌, ◌≤◌, ◌<◌, ◌^◌, ◌≡◌, true, List, ◌∷◌, length, get_or}
use Rattle.message.specs.Header.{is_message}
use Rattle.message.specs.Packing.{unpack_answer}
use Rattle.guc.specs.Messages.{packing, unpacked_by}
use Rattle.guc.specs.declared.messages.Packed.{Packed}
use Rattle.guc.specs.declared.messages.Unpacked.{Unpacked}

-- an accepted packing, and an accepted unpacking
abbrev pub dwords : ℕ → ℕ → Packed
dwords header word = record { code = 0; header = header; word = word }

abbrev pub numbers : ℕ → ℕ → ℕ → ℕ → ℕ → ℕ → Unpacked
numbers origin fence num t first second =
    record { code = 0; origin = origin; fence = fence; num_dwords = num; hxg_type = t; first = first; second = second }

-- packing the six numbers of an unpacking, whatever its code
abbrev pub packed_again : Unpacked → Packed
packed_again u = packing u.origin u.fence u.num_dwords u.hxg_type u.first u.second

pub record BothWays : Type 0 where
  -- 'Both ways agree on those two dwords': unpacked, then packed
  pub back :
      (d : List ℕ) → get_or d 0 0 < 2 ^ 32 → get_or d 1 0 < 2 ^ 32 → is_message d ≡ true
      → packed_again (unpacked_by (unpack_answer d)) ≡ dwords (get_or d 0 0) (get_or d 1 0)
  -- packed, then unpacked with any NUM_DWORDS - 1 dwords after the second; NUM_DWORDS is not 0 then
  pub there :
      (origin fence num t first second header word : ℕ) → packing origin fence num t first second ≡ dwords header word
      → (1 ≤ num)
      × ((rest : List ℕ) → length rest + 1 ≡ num
      → unpacked_by (unpack_answer (header ∷ word ∷ rest)) ≡ numbers origin fence num t first second)
