-- `worked_records` meets its contract: each row of a record by computation. Assumes nothing.
use Prim.{tt}
use mathlib.Core.Path.{refl}
use mathlib.Core.List.{flat_map}
use Rattle.record.specs.Numbers
use Rattle.record.specs.Runs
use Rattle.record.specs.Files
use Rattle.record.specs.Calls as Recording
use Rattle.examples.specs.Example.{Each}
use Rattle.examples.specs.Records.{records}
use Rattle.examples.specs.Inputs
use Rattle.examples.proofs.worked_records.Goals as goal

infixr 5 ◌&◌
-- a row, and the rows after it
abbrev ◌&◌ : {A B : Type 0} → A → B → A × B
◌&◌ row rows = (row, rows)

of_records : Each records
unfolding
    Each records Inputs.count_up Inputs.dwords flat_map
    Numbers.groups Numbers.bytes_of Numbers.led Numbers.form_of Numbers.number_of
    Runs.is_length Runs.judged_by Runs.cut_from Runs.cut
    Files.forms_from Files.forms Files.run_of Files.size_of Files.start_of Files.messages_of Files.bad_of Files.fault_of
    Recording.write_number Recording.write_answer Recording.write_leaves Recording.read_number Recording.read_answer
    Recording.read_leaves Recording.add_number Recording.add_answer Recording.add_leaves Recording.write_bound
of_records =
    refl & refl & refl & refl & refl & refl & refl & refl & refl & refl
    & refl & refl & refl & refl & refl & refl & refl & refl & refl & refl
    & refl & refl & refl & refl & refl & refl & refl & refl & refl & refl
    & refl & refl & refl
    & tt

pub returns : goal.returns
returns c = of_records
