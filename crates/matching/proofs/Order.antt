-- The numbers of an opening, each where those before it do not apply. Assumes nothing.
use Prim.Native.Nat.{ℕ, ◌+◌, ◌-◌, ◌≤◌, ◌<◌}
use mathlib.Core.Path.{◌≡◌, refl, sym, ◌∙◌}
use mathlib.Core.Logic.{◌↔◌}
use mathlib.Core.Bool.{Bool, true, false}
use mathlib.Core.List.{List}
use native.Mathlib.Omega.{arith}
use borrow.Author.Tests.{leb-false, lt-leb, le-leb, ltb-false, le-ltb, lt-ltb}
use lib.ListN.{length}
use lib.Dec.{eqb, leb, ltb}
use Rattle.message.specs.Header.{is_request}
use Rattle.ring.specs.Ring.{allowed}
use Rattle.ring.specs.Numbers.{need}
use Rattle.ring.proofs.Chains.{true_false}
use Rattle.requests.specs.declared.record.Record.{Record}
use Rattle.requests.specs.Table.{lowest_free, set_aside}
use Rattle.requests.specs.Calls.{Wall, wall_needs, open_number}
use Rattle.matching.specs.Lists.{open_call, outcome}
use Rattle.matching.specs.Matching.{Good, open_records, InOrder}
use Rattle.matching.proofs.Tables.{open_most, room}
use Rattle.matching.proofs.Openings.{is_usable}
use Rattle.matching.proofs.Unusable.{code_of, ring_last, behind, one_of, neither}

-- of a chain whose other numbers are not k, and a ring whose number is not
step :
    (b : Bool) (k rest ring : ℕ) → eqb k 0 ≡ false → (rest ≡ k → ⊥) → (ring ≡ k → ⊥)
    → (ring_last (need b k rest) ring ≡ k) ↔ (b ≡ false)
unfolding need
step true k rest ring z n r = (λ e. absurd (neither k rest ring n r e), λ e. true_false e)
step false k rest ring z n r = (λ e. refl, λ e. rw z)

-- what is said of a test, said of the numbers tested
said : {A B C : Type 0} → A ↔ B → (B → C) → (C → B) → A ↔ C
said e f g = (λ a. f (e.0 a), λ c. e.1 (g c))

module _ (w : Wall) (g : Good w.table) (aside : ℕ) (m : List ℕ) (ring : ℕ) (r : ring < 14) where
  abbrev t : List Record
  t = w.table

  abbrev code : ℕ
  code = (outcome w (open_call aside m ring)).answer.code

  -- the chain from each number on
  abbrev from_28 : ℕ
  from_28 = need (leb (set_aside t + aside) (w.n - 1)) 28 0

  abbrev from_26 : ℕ
  from_26 = need (ltb (lowest_free t) (length t)) 26 from_28

  abbrev from_27 : ℕ
  from_27 = need (is_request m) 27 from_26

  past_2 : allowed w.n ≡ true → code ≡ ring_last (behind w aside m) ring
  unfolding open_number wall_needs need
  past_2 a = code_of w (open_call aside m ring) ∙ rw (is_usable w g, a)

  past_14 : allowed w.n ≡ true → aside ≤ 256 → code ≡ ring_last from_27 ring
  unfolding need
  past_14 a b = past_2 a ∙ rw (le-leb aside 256 b)

  past_27 : allowed w.n ≡ true → aside ≤ 256 → is_request m ≡ true → code ≡ ring_last from_26 ring
  unfolding need
  past_27 a b c = past_14 a b ∙ rw c

  is_free : open_records t < length t → ltb (lowest_free t) (length t) ≡ true
  is_free d = room t ∙ lt-ltb (open_records t) (length t) d

  past_26 :
      allowed w.n ≡ true → aside ≤ 256 → is_request m ≡ true → open_records t < length t → code ≡ ring_last from_28 ring
  unfolding need
  past_26 a b c d = past_27 a b c ∙ rw (is_free d)

  -- what stands behind each
  not_26 : from_28 ≡ 26 → ⊥
  not_26 = one_of 26 _ 28 0 (λ e. omega arith) (λ e. omega arith)

  not_27 : from_26 ≡ 27 → ⊥
  not_27 = one_of 27 _ 26 from_28 (λ e. omega arith) (one_of 27 _ 28 0 (λ e. omega arith) (λ e. omega arith))

  not_14 : from_27 ≡ 14 → ⊥
  not_14 =
      one_of 14 _ 27 from_26 (λ e. omega arith)
      (one_of 14 _ 26 from_28 (λ e. omega arith) (one_of 14 _ 28 0 (λ e. omega arith) (λ e. omega arith)))

  pub in_order : InOrder w aside m ring
  in_order =
      record {
        too_wide =
            λ a. rw (past_2 a)
            (said (step (leb aside 256) 14 from_27 ring refl not_14 (λ e. omega arith))
            (leb-false aside 256) (lt-leb aside 256));
        no_request = λ a b. rw (past_14 a b) (step (is_request m) 27 from_26 ring refl not_27 (λ e. omega arith));
        full =
            λ a b c. rw (past_27 a b c)
            (said (step (ltb (lowest_free t) (length t)) 26 from_28 ring refl not_26 (λ e. omega arith))
            (λ f.
            let l : length t ≤ open_records t = ltb-false (open_records t) (length t) (sym (room t) ∙ f) in
            omega (arith, open_most t))
            (λ q. room t ∙ le-ltb (open_records t) (length t) (omega arith)));
        no_room =
            λ a b c d. rw (past_26 a b c d)
            (said (step (leb (set_aside t + aside) (w.n - 1)) 28 0 ring refl (λ e. omega arith) (λ e. omega arith))
            (leb-false _ _) (lt-leb _ _));
        ring-own = λ a b c d e. past_26 a b c d ∙ unfold need in (rw (le-leb _ _ e));
      }
