-- No fence twice: the test of a table says what its statement says, and then as many records are open as fences. Assumes
-- nothing.
use Prim.Native.Nat.{ℕ, zero, suc, ◌<◌}
use mathlib.Core.Path.{◌≡◌, sym, ap, fun_ext, ◌∙◌}
use mathlib.Core.Logic.{◌↔◌}
use mathlib.Core.Bool.{true, false, not, ◌&&◌}
use mathlib.Core.List.{List, [], ◌∷◌}
use mathlib.Core.Option.{some}
use native.Mathlib.Omega.{arith}
use borrow.Author.Tests.{leb-true, le-leb, ltb-true, ltb-false, not-true}
use lib.ListN.{length}
use lib.Dec.{leb, ltb}
use Rattle.message.proofs.Tests.{and_l, and_r, cases}
use Rattle.ring.proofs.Chains.{true_false}
use Rattle.requests.specs.declared.record.Record.{Record}
use Rattle.requests.specs.Table.{is_open, has_fence, still_open, fence_twice, allowed_length, usable, place_of, set_aside}
use Rattle.matching.specs.Map.{is_open_in, put, open_below, room_of, aside_below}
use Rattle.matching.specs.Matching.{at, entry_in, open_records, OneFenceTwice, Taken}
use Rattle.matching.proofs.Maps.{eqb_sym, below_put, below_empty, aside-put, aside-empty}
use Rattle.matching.proofs.Tables.{entry_of, or_l, or_r, has_open, has_fence_lem, has_closed, free-closed}
use Rattle.matching.proofs.Tables.{still_there, still_at, open_inside, closed_none, place_inside, place_has}

-- ---- the test

twice-places :
    (t : List Record) (i j : ℕ) → i < j → is_open (at t i) ≡ true → is_open (at t j) ≡ true → (at t i).fence ≡ (at t j).fence
    → fence_twice t ≡ true
unfolding fence_twice
twice-places [] i j l p q e = true_false (sym p ∙ free-closed)
twice-places (r ∷ t) i zero l p q e = absurd (omega arith)
twice-places (r ∷ t) zero (suc j) l p q e =
    let s : still_open t r.fence ≡ true = ap (still_open t) e ∙ still_at t j q in
    rw (p, s)
twice-places (r ∷ t) (suc i) (suc j) l p q e =
    cases (is_open r && still_open t r.fence) (λ h. rw h) (λ h. rw h (twice-places t i j (omega arith) p q e))

twice_told : (t : List Record) → OneFenceTwice t → fence_twice t ≡ true
twice_told t w = twice-places t w.i w.j w.before w.open_i w.open_j w.one-fence

twice-later : (r : Record) (t : List Record) → OneFenceTwice t → OneFenceTwice (r ∷ t)
twice-later r t w =
    record {
      i = suc w.i;
      j = suc w.j;
      before = omega arith;
      inside = omega arith;
      open_i = w.open_i;
      open_j = w.open_j;
      one-fence = w.one-fence;
    }

twice-first : (r : Record) (t : List Record) → is_open r ≡ true → still_open t r.fence ≡ true → OneFenceTwice (r ∷ t)
twice-first r t o s =
    let h = place_has t r.fence s in
    let l = place_inside t r.fence s in
    record {
      i = 0;
      j = suc (place_of r.fence t);
      before = omega arith;
      inside = omega arith;
      open_i = o;
      open_j = has_open _ _ h;
      one-fence = sym (has_fence_lem _ _ h);
    }

twice_found : (t : List Record) → fence_twice t ≡ true → OneFenceTwice t
unfolding fence_twice
twice_found [] e = true_false (sym e)
twice_found (r ∷ t) e =
    cases (is_open r && still_open t r.fence)
    (λ h. twice-first r t (and_l (is_open r) _ h) (and_r (is_open r) _ h))
    (λ h. twice-later r t (twice_found t (rw h at e)))

pub once_told : (t : List Record) → (OneFenceTwice t → ⊥) → fence_twice t ≡ false
once_told t n = cases (fence_twice t) (λ e. absurd (n (twice_found t e))) (λ e. e)

-- no record elsewhere has a fence that a record has
pub alone :
    (t : List Record) (f i : ℕ) → (OneFenceTwice t → ⊥) → has_fence f (at t i) ≡ true
    → (k : ℕ) → (k ≡ i → ⊥) → has_fence f (at t k) ≡ false
alone t f i n h k d =
    cases (has_fence f (at t k))
    (λ e.
    let o = has_open f (at t i) h in
    let p = has_open f (at t k) e in
    let q : (at t i).fence ≡ (at t k).fence = has_fence_lem f (at t i) h ∙ sym (has_fence_lem f (at t k) e) in
    absurd (n (cases (ltb i k)
    (λ l. record {
      i = i;
      j = k;
      before = ltb-true i k l;
      inside = open_inside t k p;
      open_i = o;
      open_j = p;
      one-fence = q;
    })
    (λ l.
    let m = ltb-false i k l in
    record {
      i = k;
      j = i;
      before = omega arith;
      inside = open_inside t i o;
      open_i = p;
      open_j = o;
      one-fence = sym q;
    }))))
    (λ e. e)

pub usable_told : (t : List Record) → (usable t ≡ true) ↔ Taken t
unfolding usable allowed_length
usable_told t =
    let low = leb 1 (length t) in
    let high = leb (length t) 256 in (
      λ e.
          let a = and_l (low && high) (not (fence_twice t)) e in
          let n = not-true (fence_twice t) (and_r (low && high) (not (fence_twice t)) e) in
          record {
            some_records = leb-true 1 (length t) (and_l low high a);
            not_too_many = leb-true (length t) 256 (and_r low high a);
            no_fence-twice = λ w. true_false (sym (twice_told t w) ∙ n);
          },
      λ h.
          rw (
            le-leb 1 (length t) h.some_records,
            le-leb (length t) 256 h.not_too_many,
            once_told t h.no_fence-twice,
          ),
    )

-- ---- as many records are open as fences

-- the map of a table whose first record is open
first_entry :
    (r : Record) (t : List Record) → is_open r ≡ true → (g : ℕ)
    → entry_in (r ∷ t) g ≡ put (entry_in t) r.fence (some (entry_of r)) g
unfolding entry_in put has_fence
first_entry r t o g = rw (o, eqb_sym g r.fence)

-- and of one whose first record is free
later-entry : (r : Record) (t : List Record) → is_open r ≡ false → (g : ℕ) → entry_in (r ∷ t) g ≡ entry_in t g
unfolding entry_in
later-entry r t o g = rw (has_closed g r o)

pub as_many_below :
    (n : ℕ) (t : List Record) → fence_twice t ≡ false → ((i : ℕ) → (at t i).fence < n)
    → open_records t ≡ open_below n (entry_in t)
unfolding fence_twice open_records entry_in
as_many_below n [] w l = sym (below_empty n)
as_many_below n (r ∷ t) w l =
    let i = as_many_below n t (or_r (is_open r && still_open t r.fence) _ w) (λ k. l (suc k)) in
    cases (is_open r)
    (λ e.
    let s : still_open t r.fence ≡ false = rw e at (or_l (is_open r && still_open t r.fence) _ w) in
    let c : is_open_in (entry_in t) r.fence ≡ false = sym (still_there t r.fence) ∙ s in
    let p = rw c at (below_put n (entry_in t) r.fence (some (entry_of r)) (l 0)) in
    let q = ap (open_below n) (fun_ext (first_entry r t e)) in
    rw e (omega arith))
    (λ e. let q = ap (open_below n) (fun_ext (later-entry r t e)) in rw e (omega arith))

-- ---- and they set aside as much

pub as_aside_below :
    (n : ℕ) (t : List Record) → fence_twice t ≡ false → ((i : ℕ) → (at t i).fence < n)
    → set_aside t ≡ aside_below n (entry_in t)
unfolding fence_twice set_aside entry_in
as_aside_below n [] w l = sym (aside-empty n)
as_aside_below n (r ∷ t) w l =
    let i = as_aside_below n t (or_r (is_open r && still_open t r.fence) _ w) (λ k. l (suc k)) in
    cases (is_open r)
    (λ e.
    let s : still_open t r.fence ≡ false = rw e at (or_l (is_open r && still_open t r.fence) _ w) in
    let c : room_of (entry_in t r.fence) ≡ 0 = rw (closed_none t r.fence s) in
    let p = aside-put n (entry_in t) r.fence (some (entry_of r)) (l 0) in
    let q = ap (aside_below n) (fun_ext (first_entry r t e)) in
    rw e (omega arith))
    (λ e. let q = ap (aside_below n) (fun_ext (later-entry r t e)) in rw e (omega arith))
