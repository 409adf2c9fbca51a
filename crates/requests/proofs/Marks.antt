-- Laws of the flags that mark open fences by their low eight bits. Assumes nothing.
use Prim.Native.Nat.{ℕ, ◌%◌}
use mathlib.Core.Path.{◌≡◌, refl, sym, ◌∙◌}
use mathlib.Core.Bool.{true, false}
use mathlib.Core.List.{List, [], ◌∷◌, ◌++◌}
use native.Mathlib.Omega.{arith}
use lib.ListN.{length, get_or, set, length-set}
use lib.Seq.{get_or-set_same, get_or-set_other}
use lib.Dec.{eqb}
use borrow.Author.Tests.{eqb-true, eqb-false}
use Rattle.message.proofs.Tests.{cases}
use Rattle.ring.proofs.Chains.{true_false}
use Rattle.requests.specs.declared.record.Record.{Record}
use Rattle.requests.specs.Table.{is_open, has_fence, still_open, fence_twice}
use Rattle.requests.specs.Private.{Marked}
use Rattle.requests.proofs.OpenFences.{open_more, has_open, has_own, twice_more}

-- a fence without its flag is not open
pub unmarked :
    (t : List Record) (flags : List ℕ) (f : ℕ) → Marked t flags → get_or flags (f % 256) 0 ≡ 0 → still_open t f ≡ false
unmarked t flags f m z = cases (still_open t f) (λ e. absurd (m f e z)) (λ e. e)

-- a free record more wants no flag
marked-free :
    (s : List Record) (r : Record) (flags : List ℕ) → Marked s flags → is_open r ≡ false → Marked (s ++ r ∷ []) flags
marked-free s r flags m o f e z =
    cases (still_open s f)
    (λ q. m f q z)
    (λ q. let h : has_fence f r ≡ true = simp (open_more, q) at e in true_false (sym (has_open f r h) ∙ o))

-- an open record more wants its own
marked_open :
    (s : List Record) (r : Record) (flags : List ℕ) → length flags ≡ 256 → Marked s flags
    → Marked (s ++ r ∷ []) (set flags (r.fence % 256) 1)
marked_open s r flags n m f e z =
    cases (eqb (f % 256) (r.fence % 256))
    (λ q.
    let same : f % 256 ≡ r.fence % 256 = eqb-true (f % 256) (r.fence % 256) q in
    let one : ◌≡◌ {A = ℕ} 1 0 = rw (same, get_or-set_same flags (r.fence % 256) 1 0 (omega arith)) at z in
    omega arith)
    (λ q.
    let other = eqb-false (f % 256) (r.fence % 256) q in
    let was : get_or flags (f % 256) 0 ≡ 0 = rw (get_or-set_other flags (r.fence % 256) (f % 256) 1 0 other) at z in
    let h : has_fence f r ≡ true = simp (open_more, unmarked s flags f m was) at e in
    other (rw (has_own f r h)))

-- what holds of the records that a walk has passed: no fence is open twice, and each open one has its flag
pub record Passed (s : List Record) (flags : List ℕ) : Type 0 where
  pub full : length flags ≡ 256
  pub once : fence_twice s ≡ false
  pub marked : Marked s flags

pub passed_none : (flags : List ℕ) → length flags ≡ 256 → Passed [] flags
unfolding still_open fence_twice
passed_none flags n = record { full = n; once = refl; marked = λ f e z. true_false (sym e) }

pub passed_free :
    (s : List Record) (r : Record) (flags : List ℕ) → Passed s flags → is_open r ≡ false → Passed (s ++ r ∷ []) flags
passed_free s r flags p o =
    record {
      full = p.full;
      once = twice_more s r p.once (λ e. true_false (sym e ∙ o));
      marked = marked-free s r flags p.marked o;
    }

pub passed_open :
    (s : List Record) (r : Record) (flags : List ℕ) → Passed s flags → still_open s r.fence ≡ false
    → Passed (s ++ r ∷ []) (set flags (r.fence % 256) 1)
passed_open s r flags p o =
    record {
      full = simp length-set p.full;
      once = twice_more s r p.once (λ e. o);
      marked = marked_open s r flags p.full p.marked;
    }
