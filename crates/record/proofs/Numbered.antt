-- Numbers read one after another, beside the run of the file: enough of them, or where they end. Assumes nothing.
use Prim.Native.Nat.{ℕ, zero, suc, ◌+◌, ◌≤◌, ◌<◌}
use mathlib.Core.Path.{◌≡◌, refl, sym, ap, ◌∙◌}
use mathlib.Core.List.{List, [], ◌∷◌}
use native.Mathlib.Omega.{arith}
use lib.ListN.{length, take, drop}
use lib.Seq.{drop-drop}
use lib.Dec.{eqb}
use borrow.Author.Tests.{eq-eqb, ne_eqb, eqb-true, eqb-false}
use Rattle.message.proofs.Tests.{cases}
use Rattle.record.specs.Numbers.{number_of}
use Rattle.record.specs.Files.{run_of, start_of}
use Rattle.record.specs.Private.{numbers_of, onto, stop}
use Rattle.record.proofs.Forms.{run-good, run-bad, start_zero, start_suc}

-- one number in front
numbers-good :
    (k : ℕ) (f : List ℕ) → (number_of f).fault ≡ 0
    → numbers_of (suc k) f ≡ onto ((number_of f).value ∷ []) (number_of f).size (numbers_of k (drop (number_of f).size f))
unfolding numbers_of
numbers-good k f e = rw (eq-eqb (number_of f).fault 0 e)

numbers-bad : (k : ℕ) (f : List ℕ) → ((number_of f).fault ≡ 0 → ⊥) → numbers_of (suc k) f ≡ stop (number_of f).fault
unfolding numbers_of
numbers-bad k f e = rw (ne_eqb (number_of f).fault 0 e)

-- enough numbers: the front of the run, and the bytes up to where the next one starts
pub record Enough (k : ℕ) (f : List ℕ) : Type 0 where
  pub there : k ≤ length (run_of f)
  pub dwords : (numbers_of k f).dwords ≡ take k (run_of f)
  pub size : (numbers_of k f).size ≡ start_of f k
  pub count : length (numbers_of k f).dwords ≡ k

pub enough : (k : ℕ) (f : List ℕ) → (numbers_of k f).fault ≡ 0 → Enough k f
unfolding numbers_of onto
enough zero f e =
    record { there = omega arith; dwords = refl; size = sym (start_zero f); count = refl }
enough (suc k) f e =
    cases (eqb (number_of f).fault 0)
    (λ g.
    let good : (number_of f).fault ≡ 0 = eqb-true (number_of f).fault 0 g in
    let n = numbers-good k f good in
    let rest = drop (number_of f).size f in
    let r = enough k rest (sym (ap (λ b. b.fault) n) ∙ e) in
    record {
      there = rw (run-good f good) (omega (arith, r.there));
      dwords = ap (λ b. b.dwords) n ∙ rw (run-good f good) (ap (λ (l : List ℕ). (number_of f).value ∷ l) r.dwords);
      size = ap (λ b. b.size) n ∙ rw (start_suc f k good) (ap (λ s. (number_of f).size + s) r.size);
      count = ap (λ b. length b.dwords) n ∙ ap suc r.count;
    })
    (λ g.
    let bad : (number_of f).fault ≡ 0 → ⊥ = eqb-false (number_of f).fault 0 g in
    absurd (bad (sym (ap (λ b. b.fault) (numbers-bad k f bad)) ∙ e)))

-- too few: they end where the run does, by what ends it
pub record Few (k : ℕ) (f : List ℕ) : Type 0 where
  pub short : length (run_of f) < k
  pub size : (numbers_of k f).size ≡ start_of f (length (run_of f))
  pub fault : (numbers_of k f).fault ≡ (number_of (drop (start_of f (length (run_of f))) f)).fault

pub few : (k : ℕ) (f : List ℕ) → ((numbers_of k f).fault ≡ 0 → ⊥) → Few k f
unfolding numbers_of onto
few zero f e = absurd (e refl)
few (suc k) f e =
    cases (eqb (number_of f).fault 0)
    (λ g.
    let good : (number_of f).fault ≡ 0 = eqb-true (number_of f).fault 0 g in
    let n = numbers-good k f good in
    let rest = drop (number_of f).size f in
    let r = few k rest (λ z. e (ap (λ b. b.fault) n ∙ z)) in
    let s : start_of f (length (run_of f)) ≡ (number_of f).size + start_of rest (length (run_of rest)) =
    rw (run-good f good) (start_suc f (length (run_of rest)) good) in
    record {
      short = rw (run-good f good) (omega (arith, r.short));
      size = ap (λ b. b.size) n ∙ (ap (λ m. (number_of f).size + m) r.size ∙ sym s);
      fault =
          ap (λ b. b.fault) n
          ∙ (r.fault ∙ ap (λ (l : List ℕ). (number_of l).fault) (drop-drop _ (number_of f).size f ∙ ap (λ m. drop m f) (sym s)));
    })
    (λ g.
    let bad : (number_of f).fault ≡ 0 → ⊥ = eqb-false (number_of f).fault 0 g in
    let n = numbers-bad k f bad in
    let s : start_of f (length (run_of f)) ≡ 0 = rw (run-bad f bad) (start_zero f) in
    record {
      short = rw (run-bad f bad) (omega arith);
      size = ap (λ b. b.size) n ∙ sym s;
      fault = ap (λ b. b.fault) n ∙ ap (λ m. (number_of (drop m f)).fault) (sym s);
    })
