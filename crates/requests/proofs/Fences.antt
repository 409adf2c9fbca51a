-- Laws of the next fence: a walk over fences, how it goes on and how it ends. Assumes nothing.
use Prim.Native.Nat.{ℕ, suc, ◌+◌, ◌-◌, ◌≤◌, ◌<◌}
use mathlib.Core.Path.{◌≡◌, refl, sym, ◌∙◌}
use mathlib.Core.Bool.{Bool, true, false}
use native.Mathlib.Omega.{arith}
use Rattle.requests.specs.Fence.{after, first_closed, next_fence}

-- the walk starts with all fences to go
pub next-starts : (is_open : ℕ → Bool) (last : ℕ) → first_closed (65536 - 0) is_open last ≡ next_fence is_open last
unfolding next_fence
next-starts is_open last = refl

-- a walk over n fences that has tried k of them and come to f, and whose next one is g
module _ (is_open : ℕ → Bool) (n k f : ℕ) {x : ℕ} (e : first_closed (n - k) is_open f ≡ x) where
  module _ {g : ℕ} (q : g ≡ after f) (l : k < n) where
    one_less : n - k ≡ suc (n - (k + 1))
    one_less = omega arith

    pub next-found : is_open g ≡ false → g ≡ x
    unfolding first_closed
    next-found h = let c : is_open (after f) ≡ false = rw q at h in q ∙ sym (rw (one_less, c) refl) ∙ e

    pub next_passed : is_open g ≡ true → first_closed (n - (k + 1)) is_open g ≡ x
    unfolding first_closed
    next_passed h =
        let o : is_open (after f) ≡ true = rw q at h in
        let s : first_closed (n - k) is_open f ≡ first_closed (n - (k + 1)) is_open (after f) = rw (one_less, o) refl in
        rw q (sym s ∙ e)

  pub next-ended : n ≤ k → f ≡ x
  unfolding first_closed
  next-ended l = let s : n - k ≡ 0 = omega arith in sym (rw s refl) ∙ e
