-- The length of a message and what is well formed (document 01, 'Messages').
use Rattle.std.specs.Prelude.{ℕ, ◌+◌, ◌*◌, ◌%◌, Bool, ◌&&◌, List, [], ◌∷◌, length, get_or, eqb, leb}
use Rattle.message.specs.Fields.{fence, format, reserved, num_dwords, request_action, weight, field_of}
use Rattle.message.specs.Fields.{type}
use Rattle.message.specs.Types.{known}

-- 'Total length L = 1 + NUM_DWORDS.'
abbrev pub total_length : ℕ → ℕ
total_length header = 1 + field_of num_dwords header

-- 'Well formed: format 0, reserved 0, NUM_DWORDS 1 to 255, and a known HXG type in the second dword.'
unfoldable pub well_formed : ℕ → ℕ → Bool
well_formed header word =
    eqb (field_of format header) 0
    && eqb (field_of reserved header) 0
    && leb 1 (field_of num_dwords header)
    && leb (field_of num_dwords header) 255
    && known word

-- whether so many dwords that start with these two are a message: well formed, and 'exactly L dwords'
abbrev pub starts_message : ℕ → ℕ → ℕ → Bool
starts_message len header word = eqb len (total_length header) && well_formed header word

-- a caller's message is well formed, and 'must also have exactly L dwords'
unfoldable pub is_message : List ℕ → Bool
is_message dwords = starts_message (length dwords) (get_or dwords 0 0) (get_or dwords 1 0)

-- ---- a request sent with another fence (document 02, T-08)

-- 'a request message': a caller's message of type 0
unfoldable pub is_request : List ℕ → Bool
is_request dwords = is_message dwords && eqb (field_of type (get_or dwords 1 0)) 0

-- its action, in HXG dword 0
abbrev pub action_of : ℕ → ℕ
action_of word = field_of request_action word

-- a header with another fence: its bits below the fence stay
unfoldable pub header_with : ℕ → ℕ → ℕ
header_with f header = f * weight fence + header % weight fence

-- 'with the picked fence': the message with it in the place of the caller's, every other dword the caller's
unfoldable pub with_fence : ℕ → List ℕ → List ℕ
with_fence f [] = []
with_fence f (header ∷ rest) = header_with f header ∷ rest
