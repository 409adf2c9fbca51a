-- `files::put_directory` meets its contract: marker, count and header length. Assumes nothing.
use Rattle.stage.specs.Files.{directory}
use Rattle.stage.proofs.files.put_directory.Goals as goal

pub returns : goal.returns
unfolding directory
returns c =
    let length = c in
    let count = length in
    simp (length.put.ensures, count.put_dword-2.ensures, count.put_dword.ensures)
