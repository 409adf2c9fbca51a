-- A message whose first two dwords are given: it is judged by them, and stored as them and its rest. Assumes nothing.
use Prim.Native.Nat.{ℕ, ◌≤◌, ◌<◌}
use mathlib.Core.Path.{◌≡◌, refl, sym, ◌∙◌}
use mathlib.Core.Bool.{Bool, false}
use mathlib.Core.List.{List, [], ◌∷◌}
use native.Mathlib.Omega.{arith}
use lib.ListN.{length, drop, get_or}
use lib.Dec.{eqb}
use borrow.Author.Tests.{eqb-true}
use Rattle.message.specs.Header.{total_length, well_formed, starts_message, is_message}
use Rattle.message.proofs.Formed.{well_formed_fact}
use Rattle.message.proofs.Tests.{and_l, and_r, cases}
use Rattle.ring.specs.AtOnce.{opened_by}
use Rattle.ring.specs.Numbers.{number_at, send_decision}

-- its own two dwords leave a message as it is
pub opened-own : (m : List ℕ) → opened_by (get_or m 0 0) (get_or m 1 0) m ≡ m
opened-own [] = refl
opened-own (x ∷ []) = refl
opened-own (x ∷ y ∷ r) = refl

-- fewer than two dwords are no message: NUM_DWORDS is at least 1
starts-short : (len header word : ℕ) → len < 2 → starts_message len header word ≡ false
starts-short len header word l =
    cases (starts_message len header word)
    (λ e.
    let q = eqb-true len (total_length header) (and_l (eqb len (total_length header)) (well_formed header word) e) in
    let f = well_formed_fact header word (and_r (eqb len (total_length header)) (well_formed header word) e) in
    absurd (omega (arith, f.low)))
    (λ e. e)

module _ (header word : ℕ) where
  pub opened-length : (m : List ℕ) → length (opened_by header word m) ≡ length m
  opened-length [] = refl
  opened-length (x ∷ []) = refl
  opened-length (x ∷ y ∷ r) = refl

  -- two dwords or more are these two, and what is behind them
  pub opened-parts : (m : List ℕ) → 2 ≤ length m → opened_by header word m ≡ header ∷ word ∷ drop 2 m
  opened-parts [] h = absurd (omega arith)
  opened-parts (x ∷ []) h = absurd (omega arith)
  opened-parts (x ∷ y ∷ r) h = refl

  -- whether it is a message these two dwords and its length say, also where it has no place for both
  pub opened-starts : (m : List ℕ) → starts_message (length m) header word ≡ is_message (opened_by header word m)
  unfolding is_message
  opened-starts [] = starts-short 0 header word (omega arith) ∙ sym (starts-short 0 0 0 (omega arith))
  opened-starts (x ∷ []) = starts-short 1 header word (omega arith) ∙ sym (starts-short 1 header 0 (omega arith))
  opened-starts (x ∷ y ∷ r) = refl

  -- and so they decide a send's look
  pub opened-number :
      (fits : Bool) (own : ℕ) (m d : List ℕ) (n : ℕ)
      → send_decision fits own (length m) header word d n ≡ number_at fits own (opened_by header word m) d n
  unfolding send_decision is_message
  opened-number fits own m d n = rw (← opened-starts m, opened-length m)
