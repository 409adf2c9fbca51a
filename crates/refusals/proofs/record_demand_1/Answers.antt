-- `record_demand_1` meets its contract: each call of a record by its own page. Assumes nothing.
use mathlib.Core.Path.{◌≡◌, refl}
use mathlib.Core.Bool.{true}
use Rattle.refusals.specs.RecordRefusals.{RecordCall, RecordLeftBy, record_number_of, record_tests}
use Rattle.refusals.specs.RecordRefusals.{add_call, read_call, write_call}
use Rattle.refusals.proofs.Lowest.{accepts, all_rise, exactly, first_judged, rising}
use Rattle.refusals.proofs.Records.{add_number_fact, add_refused, read_number_lem, read_refused}
use Rattle.refusals.proofs.Records.{write_number_fact, write_refused}
use Rattle.refusals.proofs.record_demand_1.Goals as goal

rise : (x : RecordCall) → all_rise (record_tests x) ≡ true
unfolding all_rise rising
rise (add_call run place direction m) = refl
rise (write_call run out) = refl
rise (read_call file out) = refl

number : (x : RecordCall) → record_number_of x ≡ first_judged (record_tests x)
number (add_call run place direction m) = add_number_fact run place direction m
number (write_call run out) = write_number_fact run out
number (read_call file out) = read_number_lem file out

left : (x : RecordCall) → (record_number_of x ≡ 0 → ⊥) → RecordLeftBy x
unfolding RecordLeftBy
left (add_call run place direction m) z = add_refused run place direction m z
left (write_call run out) z = write_refused run out z
left (read_call file out) z = read_refused file out

pub returns : goal.returns
returns c =
    record {
      exact = λ x c. exactly (record_tests x) (record_number_of x) c (rise x) (number x);
      accepts = λ x. accepts (record_tests x) (record_number_of x) (rise x) (number x);
      left = left;
    }
