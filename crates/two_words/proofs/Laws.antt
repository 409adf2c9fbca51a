-- Laws of a side in two words. Assumes nothing.
use Prim.Native.Nat.{ℕ}
use mathlib.Core.Path.{◌≡◌, refl}
use mathlib.Core.Bool.{◌&&◌}
use mathlib.Core.List.{List, [], ◌∷◌}
use native.Mathlib.Omega.{arith}
use lib.ListN.{length, set}
use lib.Dec.{eqb, ltb}
use Rattle.message.proofs.Tests.{cases}
use Rattle.channel.specs.State.{zeros, all_zero, idle_at, idle}
use Rattle.two_words.specs.TwoWords.{idle_of}

-- an idle state fits where it was made for this N and its own offset is below it
pub idle-fits : (n made own : ℕ) → (eqb made n && ltb own n) ≡ idle n (idle_at made own)
unfolding idle zeros all_zero
idle-fits n made own = cases (eqb made n) (λ t. cases (ltb own n) (λ u. rw (t, u)) (λ u. rw (t, u))) (λ t. rw t)

-- the words with another own offset
pub own-moved : (x : ℕ) (w : List ℕ) → length w ≡ 2 → idle_of (set w 1 x) ≡ idle_at (idle_of w).n x
unfolding idle_of
own-moved x [] e = absurd (omega arith)
own-moved x (a ∷ []) e = absurd (omega arith)
own-moved x (a ∷ b ∷ r) e = refl

-- words that are made for N
pub made_idle : (n : ℕ) (w : List ℕ) → length w ≡ 2 → idle_of (set (set w 0 n) 1 0) ≡ idle_at n 0
unfolding idle_of
made_idle n [] e = absurd (omega arith)
made_idle n (a ∷ []) e = absurd (omega arith)
made_idle n (a ∷ b ∷ r) e = refl
