-- The next fence: the wall's is the map's, the fences before it are open, and it is not. Assumes nothing.
use Prim.Native.Nat.{ℕ, zero, suc, ◌+◌, ◌-◌, ◌%◌, ◌≤◌, ◌<◌}
use mathlib.Core.Path.{◌≡◌, sym, ap, ◌∙◌}
use mathlib.Core.Bool.{Bool, true, false}
use native.Mathlib.Omega.{arith}
use borrow.Author.Tests.{eqb-true, eqb-false}
use lib.Dec.{eqb}
use Rattle.message.proofs.Tests.{cases}
use Rattle.ring.proofs.Chains.{true_false}
use Rattle.requests.specs.Fence.{after, first_closed, next_fence}
use Rattle.matching.specs.Map.{Map, is_open_in, how_many, further, skipped, picked}
use Rattle.matching.proofs.Maps.{below_all}

-- ---- counting up

further-first : (last : ℕ) → after last ≡ further last 0
unfolding after
further-first last = omega arith

further-next : (last d : ℕ) → after (further last d) ≡ further last (d + 1)
unfolding after
further-next last d = omega arith

further_below : (last d : ℕ) → further last d < 65536
further_below last d = omega arith

-- how far a fence is from the last
far : ℕ → ℕ → ℕ
far last f = (f + 65536 - (last + 1) % 65536) % 65536

far_below : (last f : ℕ) → far last f < 65536
unfolding far
far_below last f = omega arith

further_far : (last f : ℕ) → f < 65536 → further last (far last f) ≡ f
unfolding far
further_far last f h = omega arith

-- ---- the wall's fence is the map's

module _ (o : ℕ → Bool) (m : Map) (same : (f : ℕ) → o f ≡ is_open_in m f) (last : ℕ) where
  first-picked :
      (more d f : ℕ) → after f ≡ further last d → first_closed (suc more) o f ≡ further last (skipped more m last d)
  unfolding first_closed skipped
  first-picked zero d f e = cases (o (after f)) (λ t. rw t e) (λ t. rw t e)
  first-picked (suc more) d f e =
      let t : o (after f) ≡ is_open_in m (further last d) = ap o e ∙ same (further last d) in
      cases (is_open_in m (further last d))
      (λ h. rw (t, h) (first-picked more (d + 1) (after f) (ap after e ∙ further-next last d)))
      (λ h. rw (t, h) e)

  pub next-picked : next_fence o last ≡ picked m last
  unfolding next_fence picked
  next-picked = first-picked 65535 0 last (further-first last)

-- ---- what is skipped

module _ (m : Map) (last : ℕ) where
  skipped_open : (more d k : ℕ) → d ≤ k → k < skipped more m last d → is_open_in m (further last k) ≡ true
  unfolding skipped
  skipped_open zero d k l h = absurd (omega arith)
  skipped_open (suc more) d k l h =
      cases (is_open_in m (further last d))
      (λ t.
      cases (eqb k d)
      (λ e. rw (eqb-true k d e) t)
      (λ e.
      let n : k ≡ d → ⊥ = eqb-false k d e in
      skipped_open more (d + 1) k (omega arith) (rw t at h)))
      (λ t. let i : k < d = rw t at h in absurd (omega arith))

  -- where even the one that is picked is open, all are that it could have been
  skipped-all :
      (more d : ℕ) → is_open_in m (further last (skipped more m last d)) ≡ true → (k : ℕ) → d ≤ k → k ≤ d + more
      → is_open_in m (further last k) ≡ true
  unfolding skipped
  skipped-all zero d o k l h = let e : k ≡ d = omega arith in rw e o
  skipped-all (suc more) d o k l h =
      cases (is_open_in m (further last d))
      (λ t.
      cases (eqb k d)
      (λ e. rw (eqb-true k d e) t)
      (λ e.
      let n : k ≡ d → ⊥ = eqb-false k d e in
      skipped-all more (d + 1) (rw t at o) k (omega arith) (omega arith)))
      (λ t. true_false (sym (rw t at o) ∙ t))

  -- how many the map skips
  abbrev pub passes : ℕ
  passes = skipped 65535 m last 0

  pub picked_below : picked m last < 65536
  unfolding picked
  picked_below = further_below last passes

  pub picked_skips : (k : ℕ) → k < passes → is_open_in m (further last k) ≡ true
  picked_skips k h = skipped_open 65535 0 k (omega arith) h

  pub picked-closed : how_many m < 65536 → is_open_in m (picked m last) ≡ false
  unfolding picked how_many
  picked-closed h =
      cases (is_open_in m (further last passes))
      (λ t.
      let all : (f : ℕ) → f < 65536 → is_open_in m f ≡ true =
      λ f l. ap (is_open_in m) (sym (further_far last f l))
      ∙ skipped-all 65535 0 t (far last f) (omega arith) (omega (arith, far_below last f)) in
      absurd (omega (arith, below_all 65536 m all)))
      (λ t. t)
