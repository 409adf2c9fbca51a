-- `files::put_name_bytes` meets its contract: four bytes of the name. Assumes nothing.
use Rattle.stage.specs.Files.{name_bytes}
use Rattle.stage.proofs.files.put_name_bytes.Goals as goal

pub returns : goal.returns
unfolding name_bytes
returns c =
    let fourth = c in
    let third = fourth in
    let second = third in
    simp (c.put_four.ensures, fourth.byte_at-d.ensures, third.byte_at-c.ensures)
    (simp (second.byte_at-b.ensures, second.byte_at-a.ensures))
