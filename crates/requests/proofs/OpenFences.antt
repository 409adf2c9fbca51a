-- Laws of open fences in a table: where one stands, one record more, and a fence that is open twice. Assumes nothing.
use Prim.Native.Nat.{ℕ, ◌≤◌, ◌<◌}
use mathlib.Core.Path.{◌≡◌, refl, sym, ◌∙◌}
use mathlib.Core.Bool.{Bool, true, false, ◌&&◌, ◌||◌, and-false, or_assoc, or-true, or-false}
use mathlib.Core.List.{List, [], ◌∷◌, ◌++◌}
use native.Mathlib.Omega.{arith}
use lib.ListN.{length}
use lib.Dec.{eqb}
use borrow.Author.Tests.{eqb-true, eq-eqb}
use Rattle.message.proofs.Tests.{and_l, and_r, cases}
use Rattle.ring.proofs.Chains.{true_false}
use Rattle.requests.specs.declared.record.Record.{Record}
use Rattle.requests.specs.Table.{is_open, has_fence, still_open, fence_twice, lowest_free, place_of}

or_none : (a b : Bool) → (a || b) ≡ false → (a ≡ false) × (b ≡ false)
or_none true b e = true_false e
or_none false b e = (refl, e)

-- a place is within the table, or its end
pub free_le : (t : List Record) → lowest_free t ≤ length t
unfolding lowest_free
free_le [] = omega arith
free_le (r ∷ t) = let l = free_le t in cases (is_open r) (λ e. rw e (omega arith)) (λ e. rw e (omega arith))

pub place_le : (f : ℕ) (t : List Record) → place_of f t ≤ length t
unfolding place_of
place_le f [] = omega arith
place_le f (r ∷ t) = let l = place_le f t in cases (has_fence f r) (λ e. rw e (omega arith)) (λ e. rw e (omega arith))

-- an open fence has a place within the table, and no other has
pub open_within : (f : ℕ) (t : List Record) → still_open t f ≡ true → place_of f t < length t
unfolding still_open place_of
open_within f [] e = true_false (sym e)
open_within f (r ∷ t) e =
    cases (has_fence f r)
    (λ h. rw h (omega arith))
    (λ h. let q : still_open t f ≡ true = rw h at e in let l = open_within f t q in rw h (omega arith))

pub closed-end : (f : ℕ) (t : List Record) → still_open t f ≡ false → place_of f t ≡ length t
unfolding still_open place_of
closed-end f [] e = refl
closed-end f (r ∷ t) e =
    cases (has_fence f r)
    (λ h. let q : true ≡ false = rw h at e in true_false q)
    (λ h. let q : still_open t f ≡ false = rw h at e in rw (h, closed-end f t q))

pub within_open : (f : ℕ) (t : List Record) → place_of f t < length t → still_open t f ≡ true
within_open f t l = cases (still_open t f) (λ e. e) (λ e. absurd (omega (arith, closed-end f t e)))

pub end-closed : (f : ℕ) (t : List Record) → length t ≤ place_of f t → still_open t f ≡ false
end-closed f t l = cases (still_open t f) (λ e. absurd (omega (arith, open_within f t e))) (λ e. e)

-- what is open in two tables one after another
pub open_append : (s t : List Record) (f : ℕ) → still_open (s ++ t) f ≡ (still_open s f || still_open t f)
unfolding still_open
open_append [] t f = refl
open_append (r ∷ s) t f = rw (open_append s t f) (sym (or_assoc (has_fence f r) (still_open s f) (still_open t f)))

pub open_more : (s : List Record) (r : Record) (f : ℕ) → still_open (s ++ r ∷ []) f ≡ (still_open s f || has_fence f r)
unfolding still_open
open_more s r f = simp (open_append, or-false)

-- an open record has its fence, and which record has a fence is open
own-fence : (r : Record) → is_open r ≡ true → has_fence r.fence r ≡ true
unfolding has_fence
own-fence r e = rw (e, eq-eqb r.fence r.fence refl)

pub has_open : (f : ℕ) (r : Record) → has_fence f r ≡ true → is_open r ≡ true
unfolding has_fence
has_open f r e = and_l (is_open r) (eqb r.fence f) e

pub has_own : (f : ℕ) (r : Record) → has_fence f r ≡ true → r.fence ≡ f
unfolding has_fence
has_own f r e = eqb-true r.fence f (and_r (is_open r) (eqb r.fence f) e)

-- an open record whose fence is open before it
pub twice-at :
    (s : List Record) (r : Record) (t : List Record) → is_open r ≡ true → still_open s r.fence ≡ true
    → fence_twice (s ++ r ∷ t) ≡ true
unfolding fence_twice still_open
twice-at [] r t o e = true_false (sym e)
twice-at (x ∷ s) r t o e =
    cases (has_fence r.fence x)
    (λ h.
    let after : still_open (s ++ r ∷ t) x.fence ≡ true =
    rw (has_own r.fence x h, open_append, own-fence r o, or-true) in
    rw (has_open r.fence x h, after))
    (λ h. let q : still_open s r.fence ≡ true = rw h at e in rw (twice-at s r t o q, or-true))

-- a record more, whose fence is not open before it
pub twice_more :
    (s : List Record) (r : Record) → fence_twice s ≡ false → (is_open r ≡ true → still_open s r.fence ≡ false)
    → fence_twice (s ++ r ∷ []) ≡ false
unfolding fence_twice still_open
twice_more [] r e n = simp (and-false, or-false)
twice_more (x ∷ s) r e n =
    let q = or_none (is_open x && still_open s x.fence) (fence_twice s) e in
    let rest : fence_twice (s ++ r ∷ []) ≡ false =
    twice_more s r q.1 (λ o. (or_none (has_fence r.fence x) _ (n o)).1) in
    cases (is_open x)
    (λ o.
    let before : still_open s x.fence ≡ false = rw o at q.0 in
    cases (has_fence x.fence r)
    (λ h.
    let m = (or_none (has_fence r.fence x) _ (n (has_open x.fence r h))).0 in
    true_false (sym (own-fence x o) ∙ (rw (has_own x.fence r h) at m)))
    (λ h.
    let still : still_open (s ++ r ∷ []) x.fence ≡ false = simp (open_more, before, h) in
    simp (o, still, rest)))
    (λ o. simp (o, rest))
