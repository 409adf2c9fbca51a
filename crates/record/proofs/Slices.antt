-- Slices that a loop fills from the front. Assumes nothing.
use Prim.Native.Nat.{ℕ, zero, suc, ◌+◌, ◌-◌, ◌≤◌}
use mathlib.Core.Path.{◌≡◌, sym, ap, ◌∙◌}
use mathlib.Core.List.{List, [], ◌∷◌, ◌++◌, append_assoc, append-nil}
use native.Mathlib.Omega.{arith}
use lib.ListN.{length, get_or, set, take, drop, length-take, length-drop, length-append, length-replicate, drop_of_length-le}
use lib.Seq.{drop-drop, take-append_seam, drop-append_seam}
use borrow.Rule.Slice.PartMut.{mid_of, put_mid}
use Rattle.message.proofs.Slices.{put_front}
use Rattle.record.specs.Private.{blank}

-- an output that was filled from the front with some, and keeps its rest, filled with xs behind them
module _ (out out₀ done xs : List ℕ) (at : ℕ) (e : out ≡ done ++ drop at out₀) (d : at ≡ length done) where
  front : take at out ≡ done
  front = rw (e, d) (take-append_seam done (drop (length done) out₀))

  rest : (n : ℕ) → drop (at + n) out ≡ drop (at + n) out₀
  rest n =
      sym (drop-drop n at out)
      ∙ (ap (drop n) (rw (e, d) (drop-append_seam done (drop (length done) out₀))) ∙ drop-drop n at out₀)

  -- in a part that may be longer than xs
  pub filled_front :
      (k : ℕ) → length xs ≤ k → at + k ≤ length out
      → put_mid at k out (xs ++ drop (length xs) (mid_of at k out)) ≡ (done ++ xs) ++ drop (at + length xs) out₀
  filled_front k h l =
      put_front at k out xs h l
      ∙ (rw (front, rest (length xs)) (sym (append_assoc done xs (drop (at + length xs) out₀))))

  -- in a part as long as xs
  pub filled_all :
      (k : ℕ) → length xs ≡ k → at + k ≤ length out → put_mid at k out xs ≡ (done ++ xs) ++ drop (at + length xs) out₀
  filled_all k h l =
      let none : drop (length xs) (mid_of at k out) ≡ [] =
      drop_of_length-le (mid_of at k out) {i = length xs} (simp (length-take, length-drop) (omega arith)) in
      let whole : xs ≡ xs ++ drop (length xs) (mid_of at k out) = rw none (sym (append-nil xs)) in
      ap (put_mid at k out) whole ∙ filled_front k (omega arith) l

-- as long as it was
pub filled_length :
    (out₀ done xs : List ℕ) → length done + length xs ≤ length out₀
    → length ((done ++ xs) ++ drop (length done + length xs) out₀) ≡ length out₀
filled_length out₀ done xs h =
    simp (length-append, length-drop) (omega arith)

-- a part from place 3 on, behind three dwords that are stored by themselves
pub three-then :
    (out : List ℕ) (d l h n : ℕ) (w : List ℕ) → 3 ≤ n → n ≤ length out
    → put_mid 3 (n - 3) (set (set (set out 0 d) 1 l) 2 h) w ≡ d ∷ l ∷ h ∷ (w ++ drop n out)
three-then [] d l h n w x y = absurd (omega arith)
three-then (a ∷ []) d l h n w x y = absurd (omega arith)
three-then (a ∷ b ∷ []) d l h n w x y = absurd (omega arith)
three-then (a ∷ b ∷ c ∷ o) d l h zero w x y = absurd (omega arith)
three-then (a ∷ b ∷ c ∷ o) d l h (suc zero) w x y = absurd (omega arith)
three-then (a ∷ b ∷ c ∷ o) d l h (suc (suc zero)) w x y = absurd (omega arith)
three-then (a ∷ b ∷ c ∷ o) d l h (suc (suc (suc n))) w x y = let e : suc (suc (suc n)) - 3 ≡ n = omega arith in rw e

-- the front of a run of which the first three dwords are taken by themselves
pub three_and_rest :
    (run : List ℕ) (n : ℕ) → 3 ≤ n → n ≤ length run
    → get_or run 0 0 ∷ get_or run 1 0 ∷ get_or run 2 0 ∷ take (n - 3) (drop 3 run) ≡ take n run
three_and_rest [] n x y = absurd (omega arith)
three_and_rest (a ∷ []) n x y = absurd (omega arith)
three_and_rest (a ∷ b ∷ []) n x y = absurd (omega arith)
three_and_rest (a ∷ b ∷ c ∷ o) zero x y = absurd (omega arith)
three_and_rest (a ∷ b ∷ c ∷ o) (suc zero) x y = absurd (omega arith)
three_and_rest (a ∷ b ∷ c ∷ o) (suc (suc zero)) x y = absurd (omega arith)
three_and_rest (a ∷ b ∷ c ∷ o) (suc (suc (suc n))) x y = let e : suc (suc (suc n)) - 3 ≡ n = omega arith in rw e

-- a copy for one message has room for one
pub blank-length : length blank ≡ 258
unfolding blank
blank-length = length-replicate {A = ℕ} 258 0
