-- What storing a record in a table does: to every record, to how many are open, and to what each fence has. Assumes
-- nothing.
use Prim.Native.Nat.{ℕ, zero, suc, ◌+◌, ◌<◌}
use mathlib.Core.Path.{◌≡◌, refl, sym, ap, ◌∙◌}
use mathlib.Core.Bool.{true, false, cond}
use mathlib.Core.List.{List, [], ◌∷◌}
use mathlib.Core.Option.{none}
use native.Mathlib.Omega.{arith}
use borrow.Author.Tests.{eqb-true, eqb-false}
use lib.ListN.{length, set, length-set}
use lib.Seq.{get_or-set_same, get_or-set_other}
use lib.Dec.{eqb}
use Rattle.message.proofs.Tests.{cases}
use Rattle.ring.proofs.Chains.{true_false}
use Rattle.requests.specs.declared.record.Record.{Record}
use Rattle.requests.specs.Table.{free_record, is_open, has_fence, set_aside}
use Rattle.matching.specs.Map.{put}
use Rattle.matching.specs.Matching.{at, entry_in, open_records, OneFenceTwice}
use Rattle.matching.proofs.Maps.{put_same, put_other}
use Rattle.matching.proofs.Tables.{has_own}

-- what holds of every record, and of the one stored, holds of every record afterwards
pub each_set :
    (P : Record → Type 0) (t : List Record) (i : ℕ) (r : Record) → ((k : ℕ) → P (at t k)) → P r
    → (k : ℕ) → P (at (set t i r) k)
each_set P [] i r h p k = h k
each_set P (x ∷ t) zero r h p zero = p
each_set P (x ∷ t) zero r h p (suc k) = h (suc k)
each_set P (x ∷ t) (suc i) r h p zero = h zero
each_set P (x ∷ t) (suc i) r h p (suc k) = each_set P t i r (λ n. h (suc n)) p k

-- the count changes by what the place had and has
pub open_set :
    (t : List Record) (i : ℕ) (r : Record) → i < length t
    → open_records (set t i r) + cond (is_open (at t i)) 1 0 ≡ open_records t + cond (is_open r) 1 0
unfolding open_records
open_set [] i r h = absurd (omega arith)
open_set (x ∷ t) zero r h = omega arith
open_set (x ∷ t) (suc i) r h = let e = open_set t i r (omega arith) in omega arith

-- and so does what is set aside
abbrev pub aside_in : Record → ℕ
aside_in r = cond (is_open r) r.room 0

pub aside-set :
    (t : List Record) (i : ℕ) (r : Record) → i < length t
    → set_aside (set t i r) + aside_in (at t i) ≡ set_aside t + aside_in r
unfolding set_aside
aside-set [] i r h = absurd (omega arith)
aside-set (x ∷ t) zero r h = omega arith
aside-set (x ∷ t) (suc i) r h = let e = aside-set t i r (omega arith) in omega arith

-- ---- what each fence has

-- another fence than both records' has what it had
entry_other :
    (t : List Record) (i : ℕ) (r : Record) (g : ℕ) → has_fence g (at t i) ≡ false → has_fence g r ≡ false
    → entry_in (set t i r) g ≡ entry_in t g
unfolding entry_in
entry_other [] i r g p q = refl
entry_other (x ∷ t) zero r g p q = rw (p, q)
entry_other (x ∷ t) (suc i) r g p q =
    cases (has_fence g x) (λ e. rw e) (λ e. rw e (entry_other t i r g p q))

pub entry-none : (t : List Record) (f : ℕ) → ((k : ℕ) → has_fence f (at t k) ≡ false) → entry_in t f ≡ none
unfolding entry_in
entry-none [] f h = refl
entry-none (x ∷ t) f h = rw (h 0) (entry-none t f (λ k. h (suc k)))

-- a fence that no record has elsewhere has what the stored record has
entry-own :
    (t : List Record) (i : ℕ) (r : Record) (f : ℕ) → i < length t
    → ((k : ℕ) → (k ≡ i → ⊥) → has_fence f (at t k) ≡ false)
    → entry_in (set t i r) f ≡ entry_in (r ∷ []) f
unfolding entry_in
entry-own [] i r f l h = absurd (omega arith)
entry-own (x ∷ t) zero r f l h =
    cases (has_fence f r) (λ e. rw e) (λ e. rw e (entry-none t f (λ k. h (suc k) (λ q. omega arith))))
entry-own (x ∷ t) (suc i) r f l h =
    rw (h 0 (λ q. omega arith)) (entry-own t i r f (omega arith) (λ k n. h (suc k) (λ q. n (omega arith))))

-- a record r stored at place i, where both are of no fence but f, and no other record is of f
pub record Stores (t : List Record) (i : ℕ) (r : Record) (f : ℕ) : Type 0 where
  pub inside : i < length t
  pub was : (g : ℕ) → (g ≡ f → ⊥) → has_fence g (at t i) ≡ false
  pub now : (g : ℕ) → (g ≡ f → ⊥) → has_fence g r ≡ false
  pub elsewhere : (k : ℕ) → (k ≡ i → ⊥) → has_fence f (at t k) ≡ false

-- the map with what r has for f put in
pub stored-entry :
    (t : List Record) (i : ℕ) (r : Record) (f : ℕ) → Stores t i r f → (g : ℕ)
    → entry_in (set t i r) g ≡ put (entry_in t) f (entry_in (r ∷ []) f) g
stored-entry t i r f s g =
    cases (eqb g f)
    (λ e.
    let q : g ≡ f = eqb-true g f e in
    rw q (entry-own t i r f s.inside s.elsewhere ∙ sym (put_same (entry_in t) f (entry_in (r ∷ []) f))))
    (λ e.
    let n : g ≡ f → ⊥ = eqb-false g f e in
    entry_other t i r g (s.was g n) (s.now g n) ∙ sym (put_other (entry_in t) f (entry_in (r ∷ []) f) g n))

-- an open record of no fence but f is of f
only-fence : (r : Record) (f : ℕ) → ((g : ℕ) → (g ≡ f → ⊥) → has_fence g r ≡ false) → is_open r ≡ true → r.fence ≡ f
only-fence r f n o =
    cases (eqb r.fence f)
    (λ e. eqb-true r.fence f e)
    (λ e. true_false (sym (has_own r o) ∙ n r.fence (eqb-false r.fence f e)))

module _ (t : List Record) (i : ℕ) (r : Record) (f : ℕ) (s : Stores t i r f) where
  -- no open record elsewhere has r's fence
  no_clash : (k : ℕ) → (k ≡ i → ⊥) → is_open r ≡ true → is_open (at t k) ≡ true → r.fence ≡ (at t k).fence → ⊥
  no_clash k n o p q =
      let e : (at t k).fence ≡ f = sym q ∙ only-fence r f s.now o in
      true_false (sym (has_own (at t k) p) ∙ ap (λ (g : ℕ). has_fence g (at t k)) e ∙ s.elsewhere k n)

  at_own : (k : ℕ) → k ≡ i → at (set t i r) k ≡ r
  at_own k e = rw e (get_or-set_same t i r free_record s.inside)

  at_other : (k : ℕ) → (k ≡ i → ⊥) → at (set t i r) k ≡ at t k
  at_other k n = get_or-set_other t i k r free_record n

  -- no fence is twice in it afterwards, if none was before
  pub stored-once : (OneFenceTwice t → ⊥) → OneFenceTwice (set t i r) → ⊥
  stored-once n w =
      cases (eqb w.i i)
      (λ e.
      let x = at_own w.i (eqb-true w.i i e) in
      let l : w.j ≡ i → ⊥ = λ q. omega (arith, w.before, eqb-true w.i i e) in
      let y = at_other w.j l in
      no_clash w.j l (rw x at w.open_i) (rw y at w.open_j) (rw (x, y) at w.one-fence))
      (λ e.
      let l : w.i ≡ i → ⊥ = eqb-false w.i i e in
      let x = at_other w.i l in
      cases (eqb w.j i)
      (λ d.
      let y = at_own w.j (eqb-true w.j i d) in
      no_clash w.i l (rw y at w.open_j) (rw x at w.open_i) (sym (rw (x, y) at w.one-fence)))
      (λ d.
      let y = at_other w.j (eqb-false w.j i d) in
      n (record {
        i = w.i;
        j = w.j;
        before = w.before;
        inside = rw length-set at w.inside;
        open_i = rw x at w.open_i;
        open_j = rw y at w.open_j;
        one-fence = rw (x, y) at w.one-fence;
      })))
