-- Laws of a table of requests: which fences are open, what a fence has, and which records are free. Assumes nothing.
use Prim.Native.Nat.{ℕ, zero, suc, ◌+◌, ◌≤◌, ◌<◌}
use mathlib.Core.Path.{◌≡◌, refl, sym, ap, ◌∙◌}
use mathlib.Core.Bool.{Bool, true, false, ◌||◌}
use mathlib.Core.List.{List, [], ◌∷◌}
use mathlib.Core.Option.{Option, none, some}
use native.Mathlib.Omega.{arith}
use borrow.Author.Tests.{eqb-true, eq-eqb, ne_eqb, lt-ltb}
use lib.ListN.{length, replicate}
use lib.Dec.{ltb, leb-suc-suc}
use Rattle.message.proofs.Tests.{and_l, and_r, and_i, and_false, cases}
use Rattle.ring.proofs.Chains.{true_false}
use Rattle.requests.specs.declared.record.Record.{Record}
use Rattle.requests.specs.Table.{free_record, is_open, has_fence, still_open, lowest_free, place_of, set_aside}
use Rattle.matching.specs.Map.{Entry, there, is_open_in}
use Rattle.matching.specs.Matching.{at, entry_in, open_records}

-- the request of a record
abbrev pub entry_of : Record → Entry
entry_of r = record { action = r.action; count = r.count; room = r.room }

-- ---- tests

pub or_l : (a b : Bool) → (a || b) ≡ false → a ≡ false
or_l true b e = true_false e
or_l false b e = refl

pub or_r : (a b : Bool) → (a || b) ≡ false → b ≡ false
or_r true b e = true_false e
or_r false b e = e

-- ---- one record

pub has_open : (f : ℕ) (r : Record) → has_fence f r ≡ true → is_open r ≡ true
unfolding has_fence
has_open f r e = and_l (is_open r) _ e

pub has_fence_lem : (f : ℕ) (r : Record) → has_fence f r ≡ true → r.fence ≡ f
unfolding has_fence
has_fence_lem f r e = eqb-true r.fence f (and_r (is_open r) _ e)

pub has_own : (r : Record) → is_open r ≡ true → has_fence r.fence r ≡ true
unfolding has_fence
has_own r e = and_i (is_open r) _ e (eq-eqb r.fence r.fence refl)

pub has_other : (f : ℕ) (r : Record) → (r.fence ≡ f → ⊥) → has_fence f r ≡ false
unfolding has_fence
has_other f r n = rw (ne_eqb r.fence f n) (and_false (is_open r))

pub has_closed : (f : ℕ) (r : Record) → is_open r ≡ false → has_fence f r ≡ false
unfolding has_fence
has_closed f r e = rw e

pub free-closed : is_open free_record ≡ false
unfolding is_open
free-closed = refl

-- ---- fences still open

pub still_there : (t : List Record) (f : ℕ) → still_open t f ≡ is_open_in (entry_in t) f
unfolding still_open entry_in is_open_in
still_there [] f = refl
still_there (r ∷ t) f = cases (has_fence f r) (λ e. rw e) (λ e. rw e (still_there t f))

-- a fence that is not open has nothing
there-none : (e : Option Entry) → there e ≡ false → e ≡ none
there-none none q = refl
there-none (some e) q = true_false q

pub closed_none : (t : List Record) (f : ℕ) → still_open t f ≡ false → entry_in t f ≡ none
unfolding is_open_in
closed_none t f e = there-none (entry_in t f) (sym (still_there t f) ∙ e)

-- an open record's fence is open
pub still_at : (t : List Record) (k : ℕ) → is_open (at t k) ≡ true → still_open t (at t k).fence ≡ true
unfolding still_open
still_at [] k e = true_false (sym e ∙ free-closed)
still_at (r ∷ t) zero e = rw (has_own r e)
still_at (r ∷ t) (suc k) e =
    cases (has_fence (at t k).fence r) (λ h. rw h) (λ h. rw h (still_at t k e))

-- and a fence that is not open is no record's
pub closed_at : (t : List Record) (f k : ℕ) → still_open t f ≡ false → has_fence f (at t k) ≡ false
closed_at t f k e =
    cases (has_fence f (at t k))
    (λ h. true_false (sym (still_at t k (has_open f (at t k) h)) ∙ ap (still_open t) (has_fence_lem f (at t k) h) ∙ e))
    (λ h. h)

-- an open record is a record of the table
pub open_inside : (t : List Record) (k : ℕ) → is_open (at t k) ≡ true → k < length t
open_inside [] k e = true_false (sym e ∙ free-closed)
open_inside (r ∷ t) zero e = omega arith
open_inside (r ∷ t) (suc k) e = let i = open_inside t k e in omega arith

-- ---- the place of an open fence

pub place_inside : (t : List Record) (f : ℕ) → still_open t f ≡ true → place_of f t < length t
unfolding still_open place_of
place_inside [] f e = true_false (sym e)
place_inside (r ∷ t) f e =
    cases (has_fence f r)
    (λ h. rw h (omega arith))
    (λ h. let i = place_inside t f (rw h at e) in rw h (omega arith))

pub place_has : (t : List Record) (f : ℕ) → still_open t f ≡ true → has_fence f (at t (place_of f t)) ≡ true
unfolding still_open place_of
place_has [] f e = true_false (sym e)
place_has (r ∷ t) f e =
    cases (has_fence f r) (λ h. rw h h) (λ h. rw h (place_has t f (rw h at e)))

pub place_entry : (t : List Record) (f : ℕ) → still_open t f ≡ true → entry_in t f ≡ some (entry_of (at t (place_of f t)))
unfolding still_open place_of entry_in
place_entry [] f e = true_false (sym e)
place_entry (r ∷ t) f e =
    cases (has_fence f r) (λ h. rw h) (λ h. rw h (place_entry t f (rw h at e)))

-- ---- free records

pub lowest_free_lem : (t : List Record) → is_open (at t (lowest_free t)) ≡ false
unfolding lowest_free
lowest_free_lem [] = free-closed
lowest_free_lem (r ∷ t) = cases (is_open r) (λ e. rw e (lowest_free_lem t)) (λ e. rw e e)

pub lower_open : (t : List Record) (j : ℕ) → j < lowest_free t → is_open (at t j) ≡ true
unfolding lowest_free
lower_open [] j l = absurd (omega arith)
lower_open (r ∷ t) zero l =
    cases (is_open r) (λ e. e) (λ e. let q : 0 < 0 = rw e at l in absurd (omega arith))
lower_open (r ∷ t) (suc j) l =
    cases (is_open r)
    (λ e. let q : suc j < suc (lowest_free t) = rw e at l in lower_open t j (omega arith))
    (λ e. let q : suc j < 0 = rw e at l in absurd (omega arith))

pub open_most : (t : List Record) → open_records t ≤ length t
unfolding open_records
open_most [] = omega arith
open_most (r ∷ t) =
    let i = open_most t in
    cases (is_open r) (λ e. rw e (omega arith)) (λ e. rw e (omega arith))

pub none_open : (t : List Record) → open_records t ≡ 0 → (k : ℕ) → is_open (at t k) ≡ false
unfolding open_records
none_open [] e k = free-closed
none_open (r ∷ t) e zero =
    cases (is_open r) (λ h. let q : 1 + open_records t ≡ 0 = rw h at e in absurd (omega arith)) (λ h. h)
none_open (r ∷ t) e (suc k) = none_open t (omega arith) k

pub none-aside : (t : List Record) → open_records t ≡ 0 → set_aside t ≡ 0
unfolding open_records set_aside
none-aside [] e = refl
none-aside (r ∷ t) e =
    let i = none-aside t (omega arith) in
    rw (none_open (r ∷ t) (unfold open_records in e) 0) (omega arith)

-- a record is free exactly where fewer are open than there are
pub room : (t : List Record) → ltb (lowest_free t) (length t) ≡ ltb (open_records t) (length t)
unfolding lowest_free open_records
room [] = refl
room (r ∷ t) =
    cases (is_open r)
    (λ e.
    let q : 1 + open_records t ≡ suc (open_records t) = omega arith in
    rw (e, q) (leb-suc-suc _ (length t) ∙ room t ∙ sym (leb-suc-suc _ (length t))))
    (λ e.
    let h = open_most t in
    rw e (lt-ltb 0 (suc (length t)) (omega arith) ∙ sym (lt-ltb (0 + open_records t) (suc (length t)) (omega arith))))

-- ---- a fresh table

pub fresh-none : (n f : ℕ) → entry_in (replicate n free_record) f ≡ none
unfolding entry_in has_fence is_open
fresh-none zero f = refl
fresh-none (suc n) f = fresh-none n f

pub fresh_open : (n : ℕ) → open_records (replicate n free_record) ≡ 0
unfolding open_records is_open
fresh_open zero = refl
fresh_open (suc n) = rw (fresh_open n)

pub fresh-aside : (n : ℕ) → set_aside (replicate n free_record) ≡ 0
unfolding set_aside is_open
fresh-aside zero = refl
fresh-aside (suc n) = rw (fresh-aside n)

pub fresh_at : (n k : ℕ) → at (replicate n free_record) k ≡ free_record
fresh_at zero k = refl
fresh_at (suc n) zero = refl
fresh_at (suc n) (suc k) = fresh_at n k
