-- `files::image` meets its contract: the header is laid in a room of zeros. Assumes nothing.
use Rattle.stage.proofs.files.image.Goals as goal

pub returns : goal.returns
returns c = simp (c.put_image.ensures, c.blank-room.ensures)
