-- Messages to send, and outputs to receive in.
use Rattle.std.specs.Prelude.{◌≡◌, ℕ, Bool, ◌||◌, List, take, drop, ◌==◌, slice_index, slice_set}
use Rattle.std.proofs.Math.Option.{Option, none, some}
use Rattle.message.specs.Header.{total_length}
use Rattle.message.specs.Packing.{pack}
use Rattle.message.specs.declared.Origin.TheVariants.{Host}
use Rattle.message.specs.declared.Body.{Body}
use Rattle.message.specs.declared.Message.{Message}
use Rattle.channel.specs.State.{zeros}
use Rattle.stage.specs.Dwords.{counting}

-- an output that nothing has been laid in
unfoldable pub untouched : List ℕ
untouched = counting 0x50000000 256

-- a host's message
abbrev pub by_host : ℕ → ℕ → Body → Message
by_host fence n body = record { origin = Host; fence = fence; num_dwords = n; body = body }

-- 256 dwords with these two in front and dwords that count up behind them; all zeros where there are none
unfoldable pub dwords_of : Option (ℕ × ℕ) → List ℕ
dwords_of none = zeros
dwords_of (some p) = slice_set (counting p.0 256) 1 p.1

abbrev pub host_message : ℕ → ℕ → Body → List ℕ
host_message fence n body = dwords_of (pack (by_host fence n body))

-- a message at the front of dwords: as many of them as its header says
abbrev pub message_in : List ℕ → List ℕ
message_in dwords = take (total_length (slice_index dwords 0)) dwords

-- an output as it is due of a message of which len dwords were laid: none, or all of it; the rest is untouched
pub record AsDue (len : ℕ) (out due : List ℕ) : Type 0 where
  pub length : (len == 0 || len == total_length (slice_index due 0)) ≡ Bool.true
  pub laid : take len out ≡ take len due
  pub rest : drop len out ≡ drop len untouched
