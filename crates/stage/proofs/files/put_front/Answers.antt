-- `files::put_front` meets its contract: four bytes are put, one after another. Assumes nothing.
use Rattle.stage.specs.Files.{four}
use Rattle.stage.proofs.files.put_front.Goals as goal

pub returns : goal.returns
unfolding four
returns c =
    let fourth = c in
    let third = fourth in
    let second = third in
    let first = second in
    simp (fourth.put-4.ensures, third.put-3.ensures, second.put-2.ensures, first.put.ensures)
