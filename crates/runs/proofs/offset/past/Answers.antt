-- `offset::past` meets its contract: a sum below n is its own remainder, and another goes around once. Assumes nothing.
use mathlib.Core.Path.{sym, ◌∙◌}
use native.Mathlib.Nat.{mod-eq_of_lt}
use native.Mathlib.Omega.{arith}
use Rattle.runs.proofs.Offsets.{past_is, past_large, past_outside, past_long, past_round}
use Rattle.runs.proofs.offset.past.Goals as goal

pub returns-then-n-gt-N_MAX : goal.returns-then-n-gt-N_MAX
returns-then-n-gt-N_MAX c = (sym (past_large _ _ _ c.if-n-gt-N_MAX.true), omega arith)

pub returns-then-n-own : goal.returns-then-n-own
returns-then-n-own c = (sym (past_outside _ _ _ c.if-n-own.true), omega arith)

pub returns-then-n-k : goal.returns-then-n-k
returns-then-n-k c = (sym (past_long _ _ _ c.if-n-k.true), omega arith)

pub returns-then-sum-n : goal.returns-then-sum-n
returns-then-sum-n c = (sym (past_is _ _ _ (omega arith) (omega arith) (omega arith) ∙ mod-eq_of_lt c.if-sum-n.true), omega arith)

pub returns-else-sum-n : goal.returns-else-sum-n
returns-else-sum-n c =
    let round = past_round _ _ _ (omega arith) (omega arith) c.if-sum-n.false in
    (sym (past_is _ _ _ (omega arith) (omega arith) (omega arith) ∙ round), omega arith)
