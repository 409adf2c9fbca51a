-- `mailed_home` meets its contract, which is the theorem. Assumes nothing.
use Rattle.record.proofs.Theorem.{mailed_home}
use Rattle.record.proofs.mailed_home.Goals as goal

pub returns : goal.returns
returns c = mailed_home
