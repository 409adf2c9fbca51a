-- `files::put_entry_front` meets its contract: name, offset and length. Assumes nothing.
use Rattle.stage.specs.Files.{entry}
use Rattle.stage.proofs.files.put_entry_front.Goals as goal

pub returns : goal.returns
unfolding entry
returns c =
    let length = c in
    let offset = length in
    simp (length.put_dword-2.ensures, offset.put_dword.ensures, offset.put_name.ensures)
