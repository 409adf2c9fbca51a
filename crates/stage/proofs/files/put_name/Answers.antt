-- `files::put_name` meets its contract: twelve bytes, four at a time. Assumes nothing.
use Rattle.std.proofs.Common.{ap, ◌∙◌}
use Rattle.stage.specs.Files.{name_bytes, name}
use Rattle.stage.proofs.files.put_name.Goals as goal

pub returns : goal.returns
unfolding name
returns c =
    let third = c in
    let second = third in
    let first = second in
    let x = first.args.name.now in
    third.put_name_bytes-3.ensures
    ∙ ap (name_bytes x 8) (second.put_name_bytes-2.ensures ∙ ap (name_bytes x 4) first.put_name_bytes.ensures)
