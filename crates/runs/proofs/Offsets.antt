-- The offset past an own offset, around the end of a ring. Assumes nothing.
use Prim.Native.Nat.{ℕ, ◌+◌, ◌-◌, ◌%◌, ◌≤◌, ◌<◌}
use mathlib.Core.Path.{◌≡◌}
use native.Mathlib.Omega.{arith}
use native.Mathlib.Nat.{mod-eq_of_lt, mod-eq-sub-mod}
use lib.Dec.{leb, ltb}
use borrow.Author.Tests.{lt-ltb, le-ltb, le-leb, lt-leb}
use Rattle.message.proofs.Tests.{cases}
use Rattle.runs.specs.Buffer.{past}

-- an offset that goes around the end of the ring, at most once
pub past_round : (n own k : ℕ) → own < n → k ≤ n → n ≤ own + k → (own + k) % n ≡ own + k - n
past_round n own k l h e = rw (mod-eq-sub-mod e) (mod-eq_of_lt (omega arith))

-- the offset past an own offset: the paper's where there is such a ring, else 0
module _ (n own k : ℕ) where
  pub past_is : own < n → k ≤ n → n ≤ 16384 → past n own k ≡ (own + k) % n
  unfolding past
  past_is a b c = rw (lt-ltb own n a, le-leb k n b, le-leb n 16384 c)

  pub past_large : 16384 < n → past n own k ≡ 0
  unfolding past
  past_large h = cases (ltb own n) (λ a. cases (leb k n) (λ b. rw (a, b, lt-leb n 16384 h)) (λ b. rw (a, b))) (λ a. rw a)

  pub past_outside : n ≤ own → past n own k ≡ 0
  unfolding past
  past_outside h = rw (le-ltb own n h)

  pub past_long : n < k → past n own k ≡ 0
  unfolding past
  past_long h = cases (ltb own n) (λ a. rw (a, lt-leb k n h)) (λ a. rw a)
