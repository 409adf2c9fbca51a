-- `files::huc_directory` meets its contract: each part is laid on what was laid before. Assumes nothing.
use Rattle.stage.specs.Files.{huc_directory}
use Rattle.stage.proofs.files.huc_directory.Goals as goal

pub returns : goal.returns
unfolding huc_directory
returns c =
    let image = c in
    let build = image in
    let version = build in
    let second = version in
    let first = second in
    let header = first in
    simp (image.put_image.ensures, build.put_dword-2.ensures, version.put_dword.ensures, second.put_entry-2.ensures)
    (simp (first.put_entry.ensures, header.put_directory.ensures, header.blank-room.ensures))
