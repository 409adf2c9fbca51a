-- What a well-formed header and a whole message have. Assumes nothing.
use Prim.Native.Nat.{ℕ, ◌≤◌}
use mathlib.Core.Path.{◌≡◌}
use mathlib.Core.Bool.{true}
use mathlib.Core.List.{List}
use native.Mathlib.Omega.{arith}
use lib.ListN.{length, get_or}
use lib.Dec.{eqb}
use borrow.Author.Tests.{eqb-true, leb-true, eq-eqb, le-leb}
use Rattle.message.specs.Fields.{format, reserved, num_dwords, field_of}
use Rattle.message.specs.Types.{known}
use Rattle.message.specs.Header.{total_length, well_formed, is_message}
use Rattle.message.proofs.Tests.{and_l, and_r, and_i}

pub record WellFormed (header word : ℕ) : Type 0 where
  pub format_zero : field_of format header ≡ 0
  pub reserved_zero : field_of reserved header ≡ 0
  pub low : 1 ≤ field_of num_dwords header
  pub high : field_of num_dwords header ≤ 255
  pub known-type : known word ≡ true

module _ (header word : ℕ) where
  pub well_formed_fact : well_formed header word ≡ true → WellFormed header word
  unfolding well_formed
  well_formed_fact e = record {
    format_zero = eqb-true (field_of format header) 0 (search (and_l, and_r));
    reserved_zero = eqb-true (field_of reserved header) 0 (search (and_l, and_r));
    low = leb-true 1 (field_of num_dwords header) (search (and_l, and_r));
    high = leb-true (field_of num_dwords header) 255 (search (and_l, and_r));
    known-type = search (and_l, and_r);
  }

  pub well_formed-i : WellFormed header word → well_formed header word ≡ true
  unfolding well_formed
  well_formed-i e =
      simp (eq-eqb _ _ e.format_zero, eq-eqb _ _ e.reserved_zero, le-leb _ _ e.low, le-leb _ _ e.high, e.known-type)

module _ (d : List ℕ) where
  pub message-length : is_message d ≡ true → length d ≡ total_length (get_or d 0 0)
  unfolding is_message
  message-length e =
      let l = total_length (get_or d 0 0) in
      eqb-true (length d) l (and_l (eqb (length d) l) (well_formed (get_or d 0 0) (get_or d 1 0)) e)

  pub message-formed : is_message d ≡ true → well_formed (get_or d 0 0) (get_or d 1 0) ≡ true
  unfolding is_message
  message-formed e = and_r (eqb (length d) (total_length (get_or d 0 0))) (well_formed (get_or d 0 0) (get_or d 1 0)) e

  pub message_well : is_message d ≡ true → WellFormed (get_or d 0 0) (get_or d 1 0)
  message_well e = well_formed_fact (get_or d 0 0) (get_or d 1 0) (message-formed e)

  pub message-i : length d ≡ total_length (get_or d 0 0) → WellFormed (get_or d 0 0) (get_or d 1 0) → is_message d ≡ true
  unfolding is_message
  message-i e w =
      and_i (eqb (length d) (total_length (get_or d 0 0))) (well_formed (get_or d 0 0) (get_or d 1 0))
      (eq-eqb (length d) (total_length (get_or d 0 0)) e) (well_formed-i (get_or d 0 0) (get_or d 1 0) w)

  -- a whole message has 2 to 256 dwords
  pub message_long : is_message d ≡ true → 2 ≤ length d
  message_long e = omega (arith, message-length e, (message_well e).low)

  pub message-short : is_message d ≡ true → length d ≤ 256
  message-short e = omega (arith, message-length e, (message_well e).high)
