-- What a message keeps when its header has another fence. Assumes nothing.
use Prim.Native.Nat.{ℕ, ◌<◌}
use mathlib.Core.Path.{◌≡◌, refl}
use mathlib.Core.Bool.{true}
use mathlib.Core.List.{List, [], ◌∷◌}
use native.Mathlib.Omega.{arith}
use lib.ListN.{length, get_or, set}
use lib.Dec.{eqb}
use Rattle.message.specs.Fields.{fence, format, reserved, num_dwords, type, field_of}
use Rattle.message.specs.Header.{total_length, well_formed, is_message, is_request, header_with, with_fence}
use Rattle.message.proofs.Tests.{and_l}

module _ (f h : ℕ) where
  pub refenced_format : field_of format (header_with f h) ≡ field_of format h
  unfolding header_with
  refenced_format = omega arith

  pub refenced_reserved : field_of reserved (header_with f h) ≡ field_of reserved h
  unfolding header_with
  refenced_reserved = omega arith

  pub refenced_num : field_of num_dwords (header_with f h) ≡ field_of num_dwords h
  unfolding header_with
  refenced_num = omega arith

  pub refenced_total : total_length (header_with f h) ≡ total_length h
  refenced_total = rw refenced_num

  -- the fence of a header with another fence is that one
  pub refenced_fence : f < 65536 → field_of fence (header_with f h) ≡ f
  unfolding header_with
  refenced_fence l = omega arith

  pub refenced_formed : (w : ℕ) → well_formed (header_with f h) w ≡ well_formed h w
  unfolding well_formed
  refenced_formed w = rw (refenced_format, refenced_reserved, refenced_num)

module _ (f : ℕ) where
  pub refenced_length : (m : List ℕ) → length (with_fence f m) ≡ length m
  unfolding with_fence
  refenced_length [] = refl
  refenced_length (h ∷ r) = refl

  pub refenced_message : (m : List ℕ) → is_message (with_fence f m) ≡ is_message m
  unfolding with_fence is_message
  refenced_message [] = refl
  refenced_message (h ∷ r) = rw (refenced_total f h, refenced_formed f h (get_or r 0 0))

  -- it is the message with these two dwords in the place of its own
  pub refenced_set : (m : List ℕ) → with_fence f m ≡ set (set m 0 (header_with f (get_or m 0 0))) 1 (get_or m 1 0)
  unfolding with_fence
  refenced_set [] = refl
  refenced_set (h ∷ []) = refl
  refenced_set (h ∷ w ∷ r) = refl

-- a request is a message
pub request-message : (m : List ℕ) → is_request m ≡ true → is_message m ≡ true
unfolding is_request
request-message m e = and_l (is_message m) (eqb (field_of type (get_or m 1 0)) 0) e
