-- What reading the message at the cursor of a file comes to. Assumes nothing.
use Prim.Native.Nat.{ℕ, ◌+◌, ◌≤◌, ◌<◌}
use mathlib.Core.Path.{◌≡◌, sym, ap, ◌∙◌}
use mathlib.Core.List.{List}
use lib.ListN.{length, take, drop}
use Rattle.record.specs.Files.{run_of, whole_of}
use Rattle.record.specs.Calls.{ReadBack, read_answer}
use Rattle.record.specs.Private.{found, torn, message_of, message_in}
use Rattle.record.proofs.Bridge.{WholeAt, TornAt, message-torn, message-whole}
use Rattle.record.proofs.Cursor as cursor
use Rattle.record.proofs.Cursor.{Cursor}
use Rattle.record.proofs.Lays.{answer_damaged, answer-whole}

module _ (f : List ℕ) (at w : ℕ) (c : Cursor f at w) where
  -- a whole one: n dwords, in s bytes
  module _ (n s : ℕ) (e : found n s ≡ message_of (drop at f)) where
    whole_here : WholeAt (message_of (drop at f)) (message_in (drop at f)) (drop at f)
    whole_here = message-whole (drop at f) (sym (ap (λ k. k.fault) e))

    dwords : n ≡ (message_of (drop at f)).dwords
    dwords = ap (λ k. k.dwords) e

    bytes : s ≡ (message_of (drop at f)).size
    bytes = ap (λ k. k.size) e

    pub step_cursor : Cursor f (at + s) (w + n)
    step_cursor = rw (dwords, bytes) (cursor.whole_cursor f at w c whole_here)

    pub step_size : (3 ≤ n) × (n ≤ 258)
    step_size = let z = cursor.whole-size f at w c whole_here in rw dwords (z.0, z.2)

    pub step_bytes : 1 ≤ s
    step_bytes = rw bytes (cursor.whole-bytes f at w c whole_here)

    pub step_dwords : message_in (drop at f) ≡ take n (drop w (run_of f))
    step_dwords = cursor.whole-dwords f at w c whole_here ∙ ap (λ k. take k (drop w (run_of f))) (sym dwords)

  -- a torn one: k is wrong at its byte b
  module _ (k b : ℕ) (bad : k ≡ 0 → ⊥) (e : torn k b ≡ message_of (drop at f)) (here : at < length f) where
    torn_here : TornAt (message_of (drop at f)) (drop at f)
    torn_here = message-torn (drop at f) (λ z. bad (ap (λ m. m.fault) e ∙ z))

    pub torn_whole : whole_of f ≡ w
    torn_whole = cursor.torn-whole f at w c here torn_here

    pub torn_answer :
        (room : ℕ) → whole_of f ≤ room
        → ◌≡◌ {A = ReadBack} (record { code = 29; fault = k; at = at + b; written = w; took = at }) (read_answer f room)
    torn_answer room h =
        sym (answer_damaged f room h (cursor.torn-intact f at w c here torn_here)
        ∙ rw (
          cursor.torn-fault f at w c here torn_here,
          cursor.torn-bad f at w c here torn_here,
          cursor.torn_took f at w c here torn_here,
          torn_whole,
          ap (λ m. m.fault) e,
          ap (λ m. m.bad) e,
        ))

  -- none: the file ends here
  pub end_answer :
      length f ≤ at → (room : ℕ) → whole_of f ≤ room
      → ◌≡◌ {A = ReadBack} (record { code = 0; fault = 0; at = 0; written = w; took = at }) (read_answer f room)
  end_answer end room h =
      sym (answer-whole f room h (cursor.end-intact f at w c end)
      ∙ rw (cursor.end_took f at w c end, cursor.end_whole f at w c end))
