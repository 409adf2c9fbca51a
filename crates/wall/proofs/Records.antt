-- Lists of records, and of their words with what is set aside, as the walks of the lent table need them.
use mathlib.Core.Path.{◌≡◌, refl, sym, ◌∙◌, ap, subst}
use Prim.Native.Nat.{ℕ, zero, suc, ◌+◌, ◌<◌, ◌≤◌}
use native.Mathlib.Nat.{not-suc-le-zero, le_of_suc-le-suc, suc-ne-zero, suc_inj}
use native.Mathlib.Numerals.{add-one}
use native.Mathlib.Omega.{arith}
use mathlib.Core.Bool.{Bool, true, false, cond}
use mathlib.Core.List.{List, [], ◌∷◌, ◌++◌}
use lib.Dec.{T as Holds, leb, leb→le}
use borrow.Author.Tests.{le-leb}
use lib.ListN.{length, get_or, set, take, drop, replicate}
use Rattle.requests.specs.declared.record.Record.{Record}
use Rattle.requests.specs.Table.{free_record}
use Rattle.requests.specs.declared.planning.Plan.{Plan}
use Rattle.requests.specs.Words.{record_with, records_with}
use Rattle.requests.specs.Plan.{carried}
use Rattle.requests.proofs.Beside.{with_length}
use Rattle.wall.specs.Private.{kept}

-- past the end nothing is stored
pub set_past : (ys : List Record) (i : ℕ) (r : Record) → length ys ≤ i → ys ≡ set ys i r
set_past [] i r le = refl
set_past (y ∷ ys) zero r le = absurd (not-suc-le-zero le)
set_past (y ∷ ys) (suc i) r le = ap (λ (zs : List Record). y ∷ zs) (set_past ys i r (le_of_suc-le-suc le))

take_suc :
    (zs ys : List Record) (i : ℕ) → i < length zs → i < length ys → take i zs ≡ take i ys
    → take (suc i) (set zs i (get_or ys i free_record)) ≡ take (suc i) ys
take_suc [] ys i l k e = absurd (not-suc-le-zero l)
take_suc (a ∷ zs) [] i l k e = absurd (not-suc-le-zero k)
take_suc (a ∷ zs) (y ∷ ys) zero l k e = refl
take_suc (a ∷ zs) (y ∷ ys) (suc i) l k e =
    λ j. hd (e j) ∷ take_suc zs ys i (le_of_suc-le-suc l) (le_of_suc-le-suc k) (ap tl e) j
  where
    hd : List Record → Record
    hd [] = free_record
    hd (z ∷ zs) = z

    tl : List Record → List Record
    tl [] = []
    tl (z ∷ zs) = zs

with_set :
    (zs rs : List ℕ) (i w r : ℕ) → length zs ≡ length rs
    → records_with (set zs i w) (set rs i r) ≡ set (records_with zs rs) i (record_with w r)
unfolding records_with
with_set [] rs i w r l = refl
with_set (z ∷ zs) [] i w r l = absurd (suc-ne-zero (length zs) l)
with_set (z ∷ zs) (x ∷ rs) zero w r l = refl
with_set (z ∷ zs) (x ∷ rs) (suc i) w r l =
    ap (λ (t : List Record). record_with z x ∷ t) (with_set zs rs i w r (suc_inj l))

-- one record more is taken by value: the words and what is set aside hold one more
pub take_next :
    (zs rs : List ℕ) (ys : List Record) (i w r : ℕ) → length zs ≡ length rs → i < length zs → i < length ys
    → record_with w r ≡ get_or ys i free_record → take i (records_with zs rs) ≡ take i ys
    → take (i + 1) (records_with (set zs i w) (set rs i r)) ≡ take (i + 1) ys
take_next zs rs ys i w r both l k same e =
    subst (λ (n : ℕ). take n (records_with (set zs i w) (set rs i r)) ≡ take n ys) (sym (add-one i))
    (ap (take (suc i)) (with_set zs rs i w r both ∙ ap (set (records_with zs rs) i) same)
    ∙ take_suc (records_with zs rs) ys i (subst (λ (n : ℕ). i < n) (sym (with_length zs rs)) l) k e)

kept_by : (t : Bool) (n : ℕ) → (Holds t → n ≤ 256) → (cond t n 0 ≤ n) × (cond t n 0 ≤ 256)
kept_by true n h = (omega arith, h tt)
kept_by false n h = (omega arith, omega arith)

-- no more are taken than there are, nor than there is room for
pub kept_ok : (n m : ℕ) → m ≡ kept n → (m ≤ n) × (m ≤ 256)
unfolding kept
kept_ok n m e = subst (λ (k : ℕ). (k ≤ n) × (k ≤ 256)) (sym e) (kept_by (leb n 256) n (leb→le n 256))

-- and all of them where there is room for them
pub kept-all : (n m : ℕ) → m ≡ kept n → n ≤ 256 → m ≡ n
unfolding kept
kept-all n m e le = e ∙ ap (λ (t : Bool). cond t n 0) (le-leb n 256 le)

pub take_whole : (ys : List Record) → take (length ys) ys ≡ ys
take_whole [] = refl
take_whole (y ∷ ys) = ap (λ (zs : List Record). y ∷ zs) (take_whole ys)

-- a plan is carried out where its record is stored and the last fence is its own
pub carried-out :
    (p : Plan) (ys zs : List Record) (ws : List ℕ) (last n : ℕ) → zs ≡ set ys p.at p.stored → last ≡ p.last
    → record { answer = p.answer; wall = record { table = zs; last = last; n = n } }
    ≡ carried p (record { table = ys; last = get_or ws 0 0; n = n })
unfolding carried
carried-out p ys zs ws last n e l = λ i. record { answer = p.answer; wall = record { table = e i; last = l i; n = n } }

-- ---- a table whose first i records are free

free_suc :
    (ys : List Record) (i : ℕ) → i < length ys
    → set (replicate i free_record ++ drop i ys) i free_record ≡ replicate (suc i) free_record ++ drop (suc i) ys
free_suc [] i l = absurd (not-suc-le-zero l)
free_suc (y ∷ ys) zero l = refl
free_suc (y ∷ ys) (suc i) l = ap (λ (zs : List Record). free_record ∷ zs) (free_suc ys i (le_of_suc-le-suc l))

pub free-next :
    (ys : List Record) (i : ℕ) → i < length ys
    → set (replicate i free_record ++ drop i ys) i free_record ≡ replicate (i + 1) free_record ++ drop (i + 1) ys
free-next ys i l =
    subst (λ (k : ℕ). set (replicate i free_record ++ drop i ys) i free_record ≡ replicate k free_record ++ drop k ys)
    (sym (add-one i)) (free_suc ys i l)

pub free-length : (ys : List Record) (i : ℕ) → i ≤ length ys → length (replicate i free_record ++ drop i ys) ≡ length ys
free-length ys zero l = refl
free-length [] (suc i) l = absurd (not-suc-le-zero l)
free-length (y ∷ ys) (suc i) l = ap suc (free-length ys i (le_of_suc-le-suc l))
