-- What `clear` and `begin` make of a table and a state is what making it fresh is defined to be.
use mathlib.Core.Path.{◌≡◌, refl, sym, ◌∙◌, ap, subst}
use Prim.Native.Nat.{ℕ, ◌≤◌}
use native.Mathlib.Omega.{arith}
use mathlib.Core.Bool.{Bool, true, false, cond}
use mathlib.Core.List.{List, [], ◌∷◌, ◌++◌}
use lib.ListN.{length, drop, replicate}
use lib.Dec.{eqb}
use borrow.Author.Tests.{eqb-true}
use Rattle.message.proofs.Tests.{cases}
use Rattle.requests.specs.declared.record.Record.{Record}
use Rattle.requests.specs.declared.state.State.{State}
use Rattle.requests.specs.Table.{free_record}
use Rattle.requests.specs.Calls.{wall_of, number_alone, refused, given, fresh_number, fresh_by, fresh}
use Rattle.requests.specs.Plan.{state_in, freed, fresh_state}

freed_by : (t : Bool) (k : ℕ) → cond t k 0 ≤ k
freed_by true k = omega arith
freed_by false k = omega arith

-- no more are freed than there are
pub freed-within : (k n m : ℕ) → m ≡ freed k n → m ≤ k
unfolding freed
freed-within k n m e = subst (λ (i : ℕ). i ≤ k) (sym e) (freed_by (eqb (fresh_number k n) 0) k)

drop_all : (ys : List Record) → drop (length ys) ys ≡ []
drop_all [] = refl
drop_all (y ∷ ys) = drop_all ys

append-none : (ys : List Record) → ys ++ [] ≡ ys
append-none [] = refl
append-none (y ∷ ys) = ap (λ (zs : List Record). y ∷ zs) (append-none ys)

pub made_fresh_lem :
    (ys : List Record) (ws : List ℕ) (n m c : ℕ) (us : List ℕ) (zs : List Record) → m ≡ freed (length ys) n
    → zs ≡ replicate m free_record ++ drop m ys → c ≡ fresh_number (length ys) n
    → state_in us ≡ fresh_state (length ys) n (state_in ws) → given (number_alone c) zs us ≡ fresh (wall_of ys ws) n
unfolding freed fresh_state fresh_by refused
made_fresh_lem ys ws n m c us zs em ez ec eu =
    cases (eqb (fresh_number (length ys) n) 0)
    (λ e.
    let all : m ≡ length ys = rw e at em in
    let table : zs ≡ replicate (length ys) free_record = ez ∙ ap (λ (k : ℕ). replicate k free_record ++ drop k ys) all
    ∙ ap (λ (t : List Record). replicate (length ys) free_record ++ t) (drop_all ys) ∙ append-none _ in
    let number : c ≡ 0 = ec ∙ eqb-true _ 0 e in
    let state = rw e at eu in
    rw (e, number, table, ap (λ (s : State). s.last) state, ap (λ (s : State). s.n) state))
    (λ e.
    let none : m ≡ 0 = rw e at em in
    let table : zs ≡ ys = ez ∙ ap (λ (k : ℕ). replicate k free_record ++ drop k ys) none in
    let state = rw e at eu in
    rw (e, ec, table, ap (λ (s : State). s.last) state, ap (λ (s : State). s.n) state))
