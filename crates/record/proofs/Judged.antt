-- What a `?` makes of a first number that is no direction, and the size of a message that was judged. Assumes nothing.
use Prim.Native.Nat.{ℕ, ◌≤◌}
use mathlib.Core.Path.{◌≡◌, sym, ap}
use mathlib.Core.List.{List}
use lib.ListN.{length}
use Rattle.std.specs.Prelude.{Result, Ok, Err}
use Rattle.std.specs.Result.{IsErrAnd}
use Rattle.record.specs.Faults.{figure, of_fault}
use Rattle.record.specs.Runs.{of_judged, judged, wrong, whole}
use Rattle.record.specs.Calls.{of_added}
use Rattle.record.specs.Private.{of_found, torn}
use Rattle.record.specs.declared.adding.AddError.{AddError}
use Rattle.record.specs.declared.adding.AddError.TheVariants.{BadRecord}
use Rattle.record.specs.declared.fault.Fault.{Fault}
use Rattle.record.specs.declared.finding.Found as code
use Rattle.record.specs.declared.finding.Torn.{Torn}
use Rattle.record.specs.declared.messages.Wrong.{Wrong}
use Rattle.record.proofs.Cuts.{judged_place}

pub wrong_first :
    (r : Result ℕ Wrong) (f : Fault) → IsErrAnd r (λ w. (w.fault ≡ f) × (w.place ≡ 0)) → of_judged r ≡ wrong (figure f) 0
wrong_first (Ok n) f h = absurd h
wrong_first (Err w) f h = rw (h.0, h.1)

pub torn_first :
    (r : Result code.Found Torn) (f : Fault) → IsErrAnd r (λ t. (t.fault ≡ f) × (t.at ≡ 0)) → of_found r ≡ torn (figure f) 0
torn_first (Ok m) f h = absurd h
torn_first (Err t) f h = rw (h.0, h.1)

pub fault_same : (r : Result Unit Fault) (f : Fault) → IsErrAnd r (λ g. g ≡ f) → of_fault r ≡ figure f
fault_same (Ok u) f h = absurd h
fault_same (Err g) f h = rw h

-- how many dwords a whole message takes
pub whole_sizes : (run : List ℕ) (n : ℕ) → whole n ≡ judged run → (3 ≤ n) × (n ≤ length run) × (n ≤ 258)
whole_sizes run n e =
    let p = judged_place run (sym (ap (λ j. j.fault) e)) in
    let k : n ≡ (judged run).place = ap (λ j. j.place) e in
    rw k p

pub added_bad :
    (r : Result ℕ AddError) (f : Fault) (place : ℕ) → IsErrAnd r (λ e. e ≡ BadRecord f)
    → of_added place r ≡ record { code = 29; fault = figure f; place = place }
added_bad (Ok n) f place h = absurd h
added_bad (Err e) f place h = rw h
