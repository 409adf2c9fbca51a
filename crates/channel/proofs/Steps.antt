-- What the proofs of a receive's publish share. Assumes nothing.
use Prim.Native.Nat.{ℕ, zero, suc, ◌-◌, ◌≤◌}
use mathlib.Core.Path.{◌≡◌, refl, sym, ap, ◌∙◌}
use mathlib.Core.Bool.{true, false, ◌||◌, true≢false}
use mathlib.Core.List.{List, [], ◌∷◌, ◌++◌}
use native.Mathlib.Omega.{arith}
use lib.ListN.{length, get_or, take, drop}
use lib.Seq.{length-take-le}
use lib.Dec.{eqb, leb}
use borrow.Author.Tests.{leb-true, ne_eqb}
use Rattle.message.specs.Header.{well_formed}
use Rattle.message.proofs.Formed.{well_formed_fact}
use Rattle.channel.specs.State.{State, active_receive, header, second}
use Rattle.channel.specs.Receive.{publish_number_of}
use Rattle.ring.proofs.Chains.{passed, passed_rest, entered_fits, entered_rest}
use Rattle.runs.specs.Buffer.{laid}
use Rattle.runs.proofs.Straight.{laid-there}
use Rattle.channel.proofs.Going.{Going, going_receive, receive_active}

-- no other number is 0 or 13
other : (k c : ℕ) → (eqb c 0 || eqb c 13) ≡ true → (eqb k 0 || eqb k 13) ≡ false → eqb k c ≡ false
other k c e n = ne_eqb k c (λ z. true≢false (sym e ∙ ap (λ (x : ℕ). eqb x 0 || eqb x 13) (sym z) ∙ n))

module _ (s : State) (o d n c : ℕ) (e : c ≡ publish_number_of s o d n) (t : (eqb c 0 || eqb c 13) ≡ true) where
  -- a publish that moves HEAD has a receiver that goes on
  pub publish_going : Going n s
  unfolding publish_number_of
  publish_going = going_receive d n s _ c (other 1 c t refl) (other 2 c t refl) (other 3 c t refl) (sym e)

  -- and an output with room for a message
  pub publish-room : 256 ≤ o
  unfolding publish_number_of
  publish-room =
      let entered = entered_rest d n _ _ c (other 1 c t refl) (other 2 c t refl) (other 3 c t refl) (sym e) in
      leb-true 256 o (passed _ 5 _ c (other 5 c t refl) entered)

-- an accepted publish has a message of at least two dwords
pub publish_long : (s : State) (o d n : ℕ) → publish_number_of s o d n ≡ 0 → 2 ≤ s.len
unfolding publish_number_of
publish_long s o d n e =
    let a = receive_active n s (entered_fits d n (active_receive n s) _ 0 refl refl refl e) in
    let r = passed_rest (leb 256 o) 5 _ 0 refl (entered_rest d n (active_receive n s) _ 0 refl refl refl e) in
    let f = passed (well_formed (header s) (second s)) 13 0 0 refl (passed_rest (leb s.len s.moved) 12 _ 0 refl r) in
    omega (arith, a.agrees, (well_formed_fact (header s) (second s) f).low)

-- the first l dwords of a copy, of which two are taken by themselves
two_of : (l : ℕ) (m : List ℕ) → 2 ≤ l → l ≤ length m → get_or m 0 0 ∷ get_or m 1 0 ∷ take (l - 2) (drop 2 m) ≡ take l m
two_of zero m a b = absurd (omega arith)
two_of (suc zero) m a b = absurd (omega arith)
two_of (suc (suc l)) [] a b = absurd (omega arith)
two_of (suc (suc l)) (x ∷ []) a b = absurd (omega arith)
two_of (suc (suc l)) (x ∷ y ∷ m) a b = let e : suc (suc l) - 2 ≡ l = omega arith in rw e

-- laid at the front of an output
pub laid-copy :
    (l : ℕ) (m o : List ℕ) → 2 ≤ l → l ≤ length m → l ≤ length o
    → laid (get_or m 0 0 ∷ get_or m 1 0 ∷ take (l - 2) (drop 2 m)) o ≡ take l m ++ drop l o
laid-copy l m o a b r =
    let e : length (take l m) ≡ l = length-take-le l m b in
    ap (λ (x : List ℕ). laid x o) (two_of l m a b) ∙ laid-there (take l m) o (omega arith) ∙ rw e
