-- `finding::read_dwords` meets its contract: a test of the definition for each of the code. Assumes nothing.
use Prim.Native.Nat.{ℕ, ◌-◌, ◌≤◌}
use mathlib.Core.Path.{◌≡◌, refl, sym, ap, ◌∙◌}
use mathlib.Core.List.{List, ◌∷◌, ◌++◌}
use native.Mathlib.Omega.{arith}
use lib.ListN.{length, set, take, drop, length-set, length-drop}
use borrow.Rule.Slice.PartMut.{mid_of, mid_len}
use Rattle.message.specs.Header.{total_length}
use Rattle.record.specs.Numbers.{number_of}
use Rattle.record.specs.Private.{numbers_of, of_body, torn, dwords_in}
use Rattle.record.proofs.Figures.{figure-not-0}
use Rattle.record.proofs.Forms.{number_size, there_within}
use Rattle.record.proofs.Judged.{torn_first}
use Rattle.record.proofs.Numbered.{enough}
use Rattle.message.proofs.Slices.{to_end}
use Rattle.record.proofs.Found as found
use Rattle.record.proofs.Found.{FilledFrom}
use Rattle.record.proofs.finding.read_dwords.Goals as goal
use Rattle.record.proofs.finding.read_dwords.Goals.{After-read_numbers}

pub returns-in_err-h : goal.returns-in_err-h
returns-in_err-h c =
    let f = c.args.bytes.now in
    let n = c.in_err-h.ensures in
    let bad : (number_of f).fault ≡ 0 → ⊥ = λ e. figure-not-0 _ (ap (λ r. r.fault) n ∙ e) in
    found.torn-to _ _ _ _ _ _ _ _ (torn_first _ _ c.from_residual.ensures.1 ∙ ap (λ r. torn r.fault 0) n)
    (found.dwords-none _ f bad) bad (omega arith)

pub returns-then-total-len : goal.returns-then-total-len
returns-then-total-len c =
    let f = c.args.bytes.now in
    let n = c.in_ok-h.ensures in
    let same : c.total_length-total.result ≡ total_length (number_of f).value =
    c.total_length-total.ensures ∙ ap (λ r. total_length r.value) n in
    found.torn-to _ _ _ _ _ _ _ _ (rw (c.from.ensures.0, c.from.ensures.1) refl)
    (found.dwords-header _ f (sym (ap (λ r. r.fault) n)) (λ e. c.if-total-len.true (same ∙ e))) (λ e. omega (arith, e)) (omega arith)

pub slice_bounds-read_numbers-count : goal.slice_bounds-read_numbers-count
slice_bounds-read_numbers-count c = there_within c.args.bytes.now _ _ c.in_ok-h.ensures

pub slice_bounds-read_numbers-start : goal.slice_bounds-read_numbers-start
slice_bounds-read_numbers-start c = there_within c.args.bytes.now _ _ c.in_ok-h.ensures

-- what was read behind the header
filled :
    (c : After-read_numbers)
    → let f = c.args.bytes.now in
    FilledFrom (of_body c.read_numbers.result) c.read_numbers.new.copy (length c.args.copy.now - 1) (drop (number_of f).size f)
filled c =
    let f = c.args.bytes.now in
    let copy = c.args.copy.now in
    let n = c.in_ok-h.ensures in
    let v = c.in_ok-h.h.value in
    let s = c.in_ok-h.h.size in
    let set-size : length (set copy 0 v) ≡ length copy = length-set copy 0 v in
    let part : length (mid_of 1 (length (set copy 0 v) - 1) (set copy 0 v)) ≡ length copy - 1 =
    mid_len 1 (length (set copy 0 v)) (set copy 0 v) (omega arith) ∙ ap (λ k. k - 1) set-size in
    let rest : take (length f - s) (drop s f) ≡ drop (number_of f).size f = to_end s f ∙ ap (λ r. drop r.size f) n in
    found.filled_from_lem _ _ _ _ (length copy - 1) (drop (number_of f).size f) part rest c.read_numbers.ensures

-- the header is that of a message of so many dwords
module _ (c : After-read_numbers) where
  header : (number_of c.args.bytes.now).fault ≡ 0
  header = sym (ap (λ r. r.fault) c.in_ok-h.ensures)

  same : total_length (number_of c.args.bytes.now).value ≡ length c.args.copy.now
  same = sym (c.total_length-total.ensures ∙ ap (λ r. total_length r.value) c.in_ok-h.ensures) ∙ c.if-total-len.false

  value : c.in_ok-h.h.value ≡ (number_of c.args.bytes.now).value
  value = ap (λ r. r.value) c.in_ok-h.ensures

  size : c.in_ok-h.h.size ≡ (number_of c.args.bytes.now).size
  size = ap (λ r. r.size) c.in_ok-h.ensures

pub returns-in-Err : goal.returns-in-Err
returns-in-Err c =
    let then = (goal.at.returns-in-Err c).After-read_numbers in
    let f = c.args.bytes.now in
    let copy = c.args.copy.now in
    let b = rw c.in-Err.is at (filled then) in
    let bad : (numbers_of (length copy - 1) (drop (number_of f).size f)).fault ≡ 0 → ⊥ =
    λ e. figure-not-0 c.in-Err.torn.fault (b.fault ∙ e) in
    let there = (number_size f (header then)).2 in
    let left = length-drop (number_of f).size f in
    found.torn-to _ _ _ _ _ _ _ _
    (rw (size then, b.fault, b.size))
    (found.dwords-short (length copy) f (header then) (same then) bad)
    bad
    (omega (arith, b.size, b.within, there, left))

pub returns-in-Ok : goal.returns-in-Ok
returns-in-Ok c =
    let then = (goal.at.returns-in-Ok c).After-read_numbers in
    let f = c.args.bytes.now in
    let copy = c.args.copy.now in
    let v = c.in_ok-h.h.value in
    let r = c.read_numbers in
    let b = rw c.in-Ok.is at (filled then) in
    let there = (number_size f (header then)).2 in
    let left = length-drop (number_of f).size f in
    let all : (numbers_of (length copy - 1) (drop (number_of f).size f)).fault ≡ 0 = sym b.fault in
    let e = enough (length copy - 1) (drop (number_of f).size f) all in
    let set-size : length (set copy 0 v) ≡ length copy = length-set copy 0 v in
    let some : 1 ≤ length copy = c.requires.in_bounds in
    let lead =
    found.led-all copy v (length (set copy 0 v) - 1) (omega (arith, set-size, some)) r.new.copy
    (r.auto.copy ∙ mid_len 1 (length (set copy 0 v)) (set copy 0 v) (omega arith)) in
    let xs : v ∷ r.new.copy ≡ dwords_in (length copy) f = rw (value then, b.dwords refl) in
    found.found-to _ _ _ _ _ _ _ _
    (rw (size then, b.size))
    (found.dwords-all (length copy) f (header then) (same then) all)
    (omega (arith, b.size, b.within, there, left))
    (omega (arith, e.count))
    (lead ∙ ap (λ (k : List ℕ). k ++ drop (length k) copy) xs)
