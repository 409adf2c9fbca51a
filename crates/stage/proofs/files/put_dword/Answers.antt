-- `files::put_dword` meets its contract: its four bytes, lowest first. Assumes nothing.
use Rattle.stage.specs.Files.{dword}
use Rattle.stage.proofs.files.put_dword.Goals as goal

pub returns : goal.returns
unfolding dword
returns c = c.put_four.ensures
