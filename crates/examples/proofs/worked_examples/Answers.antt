-- `worked_examples` meets its contract: each row of the table by computation, with every definition that it calls on
-- unfolded. Assumes nothing.
use Prim.{tt}
use mathlib.Core.Path.{refl}
use mathlib.Core.Option.{Option-elim}
use Rattle.message.specs.Fields.{fit, dword}
use Rattle.message.specs.Types.{type_of, carried, body_fields, bodies_from, bodies, of_type, body_of, some_body, known}
use Rattle.message.specs.Header.{well_formed, is_message, is_request, header_with, with_fence}
use Rattle.message.specs.Packing.{origin_number, origin_of, decoded, unpack, header_fields, hxg_fields, pack, refusing}
use Rattle.runs.specs.TwoRuns.{first_count, second_count, run_of, with_run, stored_runs, read_runs}
use Rattle.ring.specs.Ring.{allowed, used, free}
use Rattle.channel.specs.State.{zeros, all_zero, idle, active_send, active_receive}
use Rattle.ring.specs.Numbers.{need, first_needs, look_needs, send_look_needs, receive_look_needs, send_decision, receive_decision, marked}
use Rattle.channel.specs.Opening.{open_number, open_by}
use Rattle.channel.specs.Steps.{all_moves_by, moves}
use Rattle.channel.specs.Send
use Rattle.channel.specs.Receive
use Rattle.firmware.specs.Bytes.{dword_at}
use Rattle.firmware.specs.Css
use Rattle.firmware.specs.Cpd
use Rattle.firmware.specs.Inside.{huc_number, manifest_number}
use Rattle.firmware.specs.Version.{huc_reading, manifest_reading, reading}
use Rattle.requests.specs.Fence.{age, signed, after, first_closed, next_fence}
use Rattle.requests.specs.Table.{is_open, has_fence, still_open, fence_twice, allowed_length, usable, lowest_free, place_of, set_aside}
use Rattle.requests.specs.Calls
use Rattle.requests.specs.Opening.{send_for, sending}
use Rattle.examples.specs.Example.{Each}
use Rattle.examples.specs.Walls.{walls}
use Rattle.examples.specs.Inputs
use Rattle.examples.specs.Table.{table, fresh_channel, once, twice, thrice, full, stores, around}
use Rattle.examples.proofs.worked_examples.Goals as goal

infixr 5 ◌&◌
-- a row, and the rows after it
abbrev ◌&◌ : {A B : Type 0} → A → B → A × B
◌&◌ row rows = (row, rows)

examples : Each table
unfolding
    Each table fresh_channel once twice thrice full stores around
    Inputs.count_up Inputs.dwords Inputs.descriptor_with Inputs.buffer Inputs.buffer_of Inputs.buffer_with
    Inputs.littles Inputs.css_header Inputs.image Inputs.entry_bytes Inputs.directory_of Inputs.directory
    fit dword type_of carried body_fields bodies_from bodies of_type body_of some_body known well_formed is_message origin_number origin_of
    decoded unpack Option-elim header_fields hxg_fields pack refusing
    first_count second_count run_of with_run stored_runs read_runs
    allowed used free zeros all_zero idle active_send active_receive open_number open_by moves all_moves_by
    need first_needs look_needs send_look_needs receive_look_needs marked send_decision receive_decision
    Send.look_by Send.move_number Send.move_by Send.publish_number Send.publish_by Send.go_on_number Send.after_look
    Receive.look_by Receive.move_number Receive.move_by Receive.publish_number_of Receive.publish_by Receive.go_on_number
    Receive.after_look Receive.whole_number Receive.whole_by
    dword_at Css.sizes Css.agree Css.span_of Css.number Css.truncated Css.shown Css.part
    Cpd.all Cpd.first_from Cpd.count_from Cpd.is_name Cpd.has_marker Cpd.directory_number Cpd.first_entry Cpd.entries_named Cpd.number Cpd.part
    reading manifest_number manifest_reading huc_number huc_reading
examples =
    refl & refl & refl & refl & refl
    & refl & refl & refl & refl & refl & refl & refl
    & refl & refl & refl & refl & refl & refl
    & refl & refl
    & refl & refl & refl & refl & refl & refl & refl & refl
    & refl & refl & refl & refl
    & refl & refl & refl & refl & refl & refl & refl & refl & refl
    & refl & refl & refl & refl & refl
    & refl & refl & refl
    & refl & refl & refl & refl
    & refl & refl & refl & refl & refl & refl
    & refl & refl & refl & refl
    & refl & refl & refl & refl & refl & refl & refl & refl & refl
    & refl & refl & refl
    & tt

of_walls : Each walls
unfolding
    Each walls Inputs.count_up Inputs.dwords Inputs.descriptor_with Inputs.buffer Inputs.buffer_of
    type_of carried body_fields bodies_from bodies of_type body_of some_body known well_formed is_message is_request header_with with_fence
    origin_of decoded unpack Option-elim
    allowed used free zeros all_zero idle active_send moves need first_needs look_needs send_look_needs marked send_decision
    Send.look_by Send.move_number Send.move_by Send.publish_number Send.publish_by Send.after_look
    age signed after first_closed next_fence is_open has_fence still_open fence_twice allowed_length usable lowest_free place_of set_aside
    Calls.refused Calls.fresh_number Calls.fresh_by Calls.wall_needs Calls.open_number Calls.picked_fence Calls.open_by
    Calls.is_reply Calls.reply_number Calls.counted Calls.count_after Calls.record_after Calls.answer_of Calls.reply_at
    Calls.reply_by Calls.heard_of send_for sending
of_walls =
    refl & refl & refl & refl & refl & refl & refl & refl & refl & refl
    & refl & refl & refl & refl & refl & refl & refl & refl & refl & refl
    & refl & refl & refl & refl & refl & refl & refl & refl & refl & refl
    & refl & refl & refl & refl & refl & refl & refl & refl & refl & refl
    & refl & refl & refl & refl & refl & refl & refl & refl & refl & refl
    & refl & refl & refl & refl & refl & refl & refl & refl & refl & refl
    & refl & refl & refl & refl & refl & refl
    & tt

pub returns : goal.returns
returns c = (examples, of_walls)
