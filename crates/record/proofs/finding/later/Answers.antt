-- `finding::later` meets its contract. Assumes nothing.
use Rattle.record.specs.Private.{later}
use Rattle.record.proofs.Figures.{figure-eqb}
use Rattle.record.proofs.finding.later.Goals as goal

pub returns-in-Ok : goal.returns-in-Ok
unfolding later
returns-in-Ok c = rw c.in-Ok.is

pub returns-in-Err : goal.returns-in-Err
unfolding later
returns-in-Err c = rw (c.in-Err.is, figure-eqb c.in-Err.torn.fault)
