-- `finding::read_message` meets its contract: a test of the definition for each of the code. Assumes nothing.
use Prim.Native.Nat.{◌-◌, ◌≤◌}
use mathlib.Core.Path.{◌≡◌, sym, ap, ◌∙◌}
use native.Mathlib.Omega.{arith}
use lib.ListN.{length, set, take, drop, length-set, length-drop}
use Rattle.record.specs.Faults.{figure}
use Rattle.record.specs.Numbers.{number_of}
use Rattle.record.specs.Private.{torn, later, length_of, message_of}
use Rattle.record.proofs.Figures.{figure-not-0}
use Rattle.record.proofs.Forms.{there_within}
use Rattle.record.proofs.Judged.{torn_first}
use Rattle.message.proofs.Slices.{to_end}
use Rattle.record.proofs.Found as found
use Rattle.record.proofs.finding.read_message.Goals as goal

pub returns-in_err-d : goal.returns-in_err-d
returns-in_err-d c =
    let f = c.args.bytes.now in
    let n = c.in_err-d.ensures in
    let bad : (number_of f).fault ≡ 0 → ⊥ = λ e. figure-not-0 _ (ap (λ r. r.fault) n ∙ e) in
    found.torn-to _ _ _ _ _ _ _ _ (torn_first _ _ c.from_residual.ensures.1 ∙ ap (λ r. torn r.fault 0) n)
    (found.direction_none f bad) bad (omega arith)

pub returns-in_err-try_from : goal.returns-in_err-try_from
returns-in_err-try_from c =
    let f = c.args.bytes.now in
    let n = c.in_ok-d.ensures in
    let no = c.in_err-try_from.ensures in
    found.torn-to _ _ _ _ _ _ _ _ (torn_first _ _ c.from_residual-in_err-try_from.ensures.1 ∙ ap (λ g. torn (figure g) 0) no.0)
    (found.direction_wrong f (sym (ap (λ r. r.fault) n)) (rw (← ap (λ r. r.value) n) no.1))
    (λ e. omega (arith, e)) (omega arith)

pub slice_bounds-read_length-count : goal.slice_bounds-read_length-count
slice_bounds-read_length-count c = there_within c.args.bytes.now _ _ c.in_ok-d.ensures

pub slice_bounds-read_length-start : goal.slice_bounds-read_length-start
slice_bounds-read_length-start c = there_within c.args.bytes.now _ _ c.in_ok-d.ensures

pub returns : goal.returns
returns c =
    let f = c.args.bytes.now in
    let n = c.in_ok-d.ensures in
    let good : (number_of f).fault ≡ 0 = sym (ap (λ r. r.fault) n) in
    let copy = c.args.copy.now in
    let v = c.in_ok-d.d.value in
    let s = c.in_ok-d.d.size in
    let size = there_within f _ _ n in
    let value = ap (λ r. r.value) n in
    let bytes = ap (λ r. r.size) n in
    let r = c.read_length-r in
    let part : take (length f - s) (drop s f) ≡ drop s f = to_end s f in
    let rest : length (take (length f - s) (drop s f)) ≡ length f - s = ap length part ∙ length-drop s f in
    let set-size : length (set copy 0 v) ≡ length copy = length-set copy 0 v in
    let by : message_of f ≡ later s (length_of (drop s f)) =
    rw bytes (found.direction_then f good (rw (← value) c.in_ok-try_from.ensures.1)) in
    let wide : 258 ≤ length copy = c.requires in
    found.behind-to _ _ r.new.copy copy _ (length f) v (length (set copy 0 v) - 1) s _
    (omega (arith, set-size, wide)) (omega (arith, rest, size)) r.ensures _ _ _ c.later.ensures
    (by ∙ rw part) (found.message_in_fact f ∙ rw (part, value, bytes))
