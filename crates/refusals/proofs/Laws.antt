-- Laws of lists of numbers, and of what leaves the reserved words of a descriptor alone. Assumes nothing.
use Prim.Native.Nat.{ℕ, ◌<◌}
use mathlib.Core.Path.{◌≡◌, refl, sym, ap, ◌∙◌}
use mathlib.Core.Bool.{Bool, true, false, ◌||◌, cond}
use mathlib.Core.List.{List, [], ◌∷◌}
use native.Mathlib.Omega.{arith}
use lib.ListN.{length, get_or, set}
use lib.Seq.{drop-set-lt, get_or-take, take-set-lt}
use lib.Dec.{eqb}
use borrow.Author.Tests.{eqb-true}
use Rattle.ring.specs.Ring.{HEAD, STATUS, head, tail, status}
use Rattle.ring.specs.Numbers.{first_needs, need}
use Rattle.ring.proofs.Chains.{true_false}
use Rattle.message.proofs.Tests.{cases}
use Rattle.refusals.specs.Left.{descriptor_left, reserved_words, unreserved_words}

-- a number is one of a list
unfoldable pub one_of : List ℕ → ℕ → Bool
one_of [] c = false
one_of (x ∷ xs) c = eqb c x || one_of xs c

-- the numbers of the table that each kind of operation may answer
abbrev pub looking_send : List ℕ
looking_send = 0 ∷ 1 ∷ 2 ∷ 3 ∷ 4 ∷ 6 ∷ 7 ∷ 8 ∷ 10 ∷ []

abbrev pub looking_receive : List ℕ
looking_receive = 0 ∷ 1 ∷ 2 ∷ 3 ∷ 6 ∷ 7 ∷ 8 ∷ 9 ∷ 11 ∷ []

abbrev pub going_on : List ℕ
going_on = 0 ∷ 1 ∷ 2 ∷ 3 ∷ 12 ∷ []

abbrev pub publishing_receive : List ℕ
publishing_receive = 0 ∷ 1 ∷ 2 ∷ 3 ∷ 5 ∷ 12 ∷ 13 ∷ []

abbrev pub whole_receiving : List ℕ
whole_receiving = 0 ∷ 1 ∷ 2 ∷ 3 ∷ 5 ∷ 6 ∷ 7 ∷ 8 ∷ 9 ∷ 11 ∷ 13 ∷ []

-- a chain answers one of the list where its first test's number and the rest of it do
pub one-need : (may : List ℕ) (t : Bool) (k r : ℕ) → one_of may k ≡ true → one_of may r ≡ true → one_of may (need t k r) ≡ true
unfolding need
one-need may true k r p q = q
one-need may false k r p q = p

-- and where 1, 2, 3 and what is behind them do
pub one-first :
    (may : List ℕ) (d n : ℕ) (fits : Bool) (r : ℕ) → one_of may 1 ≡ true → one_of may 2 ≡ true → one_of may 3 ≡ true
    → one_of may r ≡ true
    → one_of may (first_needs d n fits r) ≡ true
unfolding first_needs
one-first may d n fits r p₁ p₂ p₃ q = one-need may _ 1 _ p₁ (one-need may _ 2 _ p₂ (one-need may _ 3 _ p₃ q))

-- one of the list is none that is not in it
pub not_one : (may : List ℕ) (c k : ℕ) → one_of may c ≡ true → one_of may k ≡ false → eqb c k ≡ false
not_one may c k p q =
    cases (eqb c k) (λ t. true_false (sym p ∙ ap (one_of may) (eqb-true c k t) ∙ q)) (λ t. t)

-- two descriptors that differ in reserved words alone
pub record Alike (d e : List ℕ) : Type 0 where
  pub size : length d ≡ length e
  pub front : unreserved_words d ≡ unreserved_words e
  pub heads : head d ≡ head e
  pub tails : tail d ≡ tail e
  pub statuses : status d ≡ status e

pub alike : (d e : List ℕ) → length d ≡ length e → unreserved_words d ≡ unreserved_words e → Alike d e
alike d e l f =
    let at : (i : ℕ) → i < 3 → get_or d i 0 ≡ get_or e i 0 =
    λ i h. sym (get_or-take 3 d i 0 h) ∙ ap (λ (x : List ℕ). get_or x i 0) f ∙ get_or-take 3 e i 0 h in
    record { size = l; front = f; heads = at 0 (omega arith); tails = at 1 (omega arith); statuses = at 2 (omega arith) }

-- a change of a descriptor that neither heeds nor changes reserved words
pub record Mild (f : List ℕ → List ℕ) : Type 0 where
  pub rest : (d : List ℕ) → reserved_words (f d) ≡ reserved_words d
  pub front : (d e : List ℕ) → unreserved_words d ≡ unreserved_words e → unreserved_words (f d) ≡ unreserved_words (f e)

pub mild_none : Mild (λ (d : List ℕ). d)
mild_none = record { rest = λ d. refl; front = λ d e p. p }

pub mild_set : (i v : ℕ) → i < 3 → Mild (λ (d : List ℕ). set d i v)
mild_set i v h =
    record {
      rest = λ d. drop-set-lt 3 d i v h;
      front = λ d e p. take-set-lt 3 d i v h ∙ ap (λ (l : List ℕ). set l i v) p ∙ sym (take-set-lt 3 e i v h);
    }

mild_cond : (t : Bool) (f g : List ℕ → List ℕ) → Mild f → Mild g → Mild (λ (d : List ℕ). cond t (f d) (g d))
mild_cond true f g m n = m
mild_cond false f g m n = n

-- what a refusal leaves is one
pub mild_leaves : (c past : ℕ) → Mild (descriptor_left c past)
unfolding descriptor_left
mild_leaves c past =
    mild_cond (eqb c 7) _ _ (mild_set STATUS _ (omega arith))
    (mild_cond (eqb c 8) _ _ (mild_set STATUS _ (omega arith))
    (mild_cond (eqb c 9) _ _ (mild_set STATUS _ (omega arith)) (mild_cond (eqb c 13) _ _ (mild_set HEAD _ (omega arith)) mild_none)))
