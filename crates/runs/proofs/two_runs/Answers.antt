-- `two_runs` meets its contract, which is the statement. Assumes nothing.
use Prim.Native.Nat.{◌-◌}
use native.Mathlib.Omega.{arith}
use Rattle.runs.proofs.TwoRuns.{first-places, second-places, one, two, none_left}
use Rattle.runs.proofs.TwoRuns.{stored_in_runs, read_in_runs, judged_together, judged-apart, others_read}
use Rattle.runs.proofs.two_runs.Goals as goal

pub returns : goal.returns
returns c =
    record {
      first-places = first-places;
      second-places = second-places;
      one = one;
      none = none_left;
      two = two;
      stored_in_runs = stored_in_runs;
      read_in_runs = read_in_runs;
      judged_together = λ b i h w r l f. judged_together b i h w r l;
      judged-apart = λ b i h w r e f. judged-apart b i h w r e;
      others_read = λ b i k l t h. others_read b i (k - 2) l (omega arith);
    }
