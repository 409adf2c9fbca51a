-- `cpd::cpd_directory` meets its contract. Assumes nothing.
use Rattle.std.proofs.lemmas.Result.{err_from_is_err_and}
use Rattle.firmware.proofs.Read.{directory-is}
use Rattle.firmware.proofs.cpd.cpd_directory.Goals as goal

pub returns-in_err-t : goal.returns-in_err-t
returns-in_err-t c =
    let p = err_from_is_err_and c.from_residual.result c.from_residual.ensures.1 in
    rw (p.1, p.2) (directory-is _ c.in_err-t.ensures)

pub returns : goal.returns
returns c = directory-is _ c.in_ok-t.ensures
