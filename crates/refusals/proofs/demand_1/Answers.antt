-- `demand_1` meets its contract: each call's number is that of the first row of the table that is given. Assumes
-- nothing.
-- ---- operations
-- ---- every call
use Prim.Native.Nat.{ℕ, zero, suc}
use mathlib.Core.Path.{◌≡◌, refl, ◌∙◌}
use mathlib.Core.Bool.{true, false}
use mathlib.Core.List.{List}
use mathlib.Core.Option.{some}
use lib.Dec.{eqb-zero-suc}
use borrow.Author.Tests.{ne_eqb}
use Rattle.message.specs.Packing.{unpack}
use Rattle.channel.specs.State.{State, idle_at, made_for, idle, active_send, active_receive}
use Rattle.channel.specs.Opening.{open_by}
use Rattle.channel.specs.Operations.{Op, send_look, send_move, send_publish, send_whole}
use Rattle.channel.specs.Operations.{receive_look, receive_move, receive_publish, receive_whole, gives}
use Rattle.firmware.specs.Css
use Rattle.firmware.specs.Cpd
use Rattle.firmware.specs.Inside.{huc_number}
use Rattle.firmware.specs.Version.{css_reading, huc_reading, manifest_reading, reading}
use Rattle.firmware.specs.declared.css.Component.TheVariants.{Ucode}
use Rattle.firmware.proofs.Measured.{directory-code, entry-code, huc-code, image_code, manifest_code}
use Rattle.firmware.proofs.Measured.{directory-missing, entry-missing, huc-missing, image-missing, manifest_missing}
use Rattle.firmware.proofs.Nowhere.{entry-nowhere, huc-nowhere, image-nowhere, name-nowhere}
use Rattle.refusals.specs.Table.{fits, operation_rows}
use Rattle.refusals.specs.Left.{OperationRefused, ReservedStay}
use Rattle.refusals.specs.Refusals.{Demand1, LeftBy, PublicCall, directory_call, entry_call}
use Rattle.refusals.specs.Refusals.{huc_answer_call, huc_location_call, huc_version_call, image_answer_call, image_location_call}
use Rattle.refusals.specs.Refusals.{image_version_call, manifest_version_call, name_answer_call, name_location_call, number_of}
use Rattle.refusals.specs.Refusals.{directory_figures_call, entry_figures_call, huc_figures_call, image_figures_call}
use Rattle.refusals.specs.Refusals.{manifest_figures_call}
use Rattle.refusals.specs.Refusals.{open_call, operation_call, pack_call, tests, unpack_call}
use Rattle.refusals.specs.Refusals.{fresh_call, reply_dwords_call, reply_message_call, send_request_call}
use Rattle.refusals.proofs.Sends.{send-look, send-move, send-publish, send-whole}
use Rattle.refusals.proofs.Receives.{opening-refused, receive-look, receive-move, receive-publish, receive-whole}
use Rattle.refusals.proofs.Lowest.{accepts, all_rise, exactly, first_judged, first_of, rising}
use Rattle.refusals.proofs.Rows.{opens, receive_looks_fact, receive-moves, receive_publishes}
use Rattle.refusals.proofs.Rows.{receives-whole, send_looks_fact, send-moves, send_publishes}
use Rattle.refusals.proofs.Files.{alone, directory-number, entry-number, huc-number}
use Rattle.refusals.proofs.Files.{image-number, location_refused, manifest_number_lem, packs}
use Rattle.refusals.proofs.Files.{reading-refused, refused_nothing, seek_number, unpacks}
use Rattle.refusals.proofs.Walls.{fresh-number, fresh-refused, received-number, reply-number, reply-refused}
use Rattle.refusals.proofs.Requests.{send-number, send-refused, send-reserved}
use Rattle.refusals.proofs.demand_1.Goals as goal

operation_number : (op : Op) (s : State) (d b : List ℕ) → (gives op s d b).code ≡ first_of (operation_rows op s d b)
operation_number (send_look m) s d b = (send-look s m b).codes d ∙ send_looks_fact s m d b
operation_number send_move s d b = (send-move s b).codes d ∙ send-moves s d b
operation_number send_publish s d b = (send-publish s b).codes d ∙ send_publishes s d b
operation_number (send_whole m) s d b = (send-whole s m b).codes d ∙ send_looks_fact s m d b
operation_number receive_look s d b = (receive-look s b).codes d ∙ receive_looks_fact s d b
operation_number receive_move s d b = (receive-move s b).codes d ∙ receive-moves s d b
operation_number (receive_publish o) s d b = (receive-publish s o b).codes d ∙ receive_publishes s o d b
operation_number (receive_whole o) s d b = (receive-whole s o b).codes d ∙ receives-whole s o d b

operation_refused :
    (op : Op) (s : State) (d b : List ℕ) → ((gives op s d b).code ≡ 0 → ⊥) → OperationRefused op s d b (gives op s d b)
operation_refused (send_look m) s d b = (send-look s m b).refused d
operation_refused send_move s d b = (send-move s b).refused d
operation_refused send_publish s d b = (send-publish s b).refused d
operation_refused (send_whole m) s d b = (send-whole s m b).refused d
operation_refused receive_look s d b = (receive-look s b).refused d
operation_refused receive_move s d b = (receive-move s b).refused d
operation_refused (receive_publish o) s d b = (receive-publish s o b).refused d
operation_refused (receive_whole o) s d b = (receive-whole s o b).refused d

operation_reserved : (op : Op) (s : State) (b : List ℕ) → ReservedStay (λ (d : List ℕ). gives op s d b)
operation_reserved (send_look m) s b = (send-look s m b).stay
operation_reserved send_move s b = (send-move s b).stay
operation_reserved send_publish s b = (send-publish s b).stay
operation_reserved (send_whole m) s b = (send-whole s m b).stay
operation_reserved receive_look s b = (receive-look s b).stay
operation_reserved receive_move s b = (receive-move s b).stay
operation_reserved (receive_publish o) s b = (receive-publish s o b).stay
operation_reserved (receive_whole o) s b = (receive-whole s o b).stay

-- a state made for N 0 is made for no ring
not_made : (n : ℕ) → made_for n (idle_at 0 0) ≡ false
not_made zero = refl
not_made (suc n) = rw (eqb-zero-suc n)

no_call : (op : Op) (n : ℕ) → fits op n (idle_at 0 0) ≡ false
unfolding idle active_send active_receive
no_call (send_look m) n = rw (not_made n)
no_call send_move n = rw (not_made n)
no_call send_publish n = rw (not_made n)
no_call (send_whole m) n = rw (not_made n)
no_call receive_look n = rw (not_made n)
no_call receive_move n = rw (not_made n)
no_call (receive_publish o) n = rw (not_made n)
no_call (receive_whole o) n = rw (not_made n)

rise : (x : PublicCall) → all_rise (tests x) ≡ true
unfolding all_rise rising
rise (open_call d b) = refl
rise (operation_call (send_look m) s d b) = refl
rise (operation_call send_move s d b) = refl
rise (operation_call send_publish s d b) = refl
rise (operation_call (send_whole m) s d b) = refl
rise (operation_call receive_look s d b) = refl
rise (operation_call receive_move s d b) = refl
rise (operation_call (receive_publish o) s d b) = refl
rise (operation_call (receive_whole o) s d b) = refl
rise (pack_call m) = refl
rise (unpack_call dwords) = refl
rise (image_location_call which blob) = refl
rise (image_answer_call blob) = refl
rise (image_version_call blob) = refl
rise (name_location_call blob name) = refl
rise (name_answer_call blob name) = refl
rise (directory_call blob) = refl
rise (entry_call blob i) = refl
rise (manifest_version_call blob) = refl
rise (huc_location_call which blob) = refl
rise (huc_answer_call blob) = refl
rise (huc_version_call blob) = refl
rise (image_figures_call blob) = refl
rise (directory_figures_call blob) = refl
rise (entry_figures_call blob i) = refl
rise (manifest_figures_call blob) = refl
rise (huc_figures_call blob) = refl
rise (fresh_call w n) = refl
rise (send_request_call w room m s d b) = refl
rise (reply_message_call w m) = refl
rise (reply_dwords_call w dwords) = refl

number : (x : PublicCall) → number_of x ≡ first_judged (tests x)
unfolding open_by Cpd.entries_of css_reading huc_reading manifest_reading reading
number (open_call d b) = opens d b ∙ alone _
number (operation_call op s d b) = operation_number op s d b ∙ alone _
number (pack_call m) = packs m ∙ alone _
number (unpack_call dwords) = unpacks dwords ∙ alone _
number (image_location_call which blob) = image-number blob ∙ alone _
number (image_answer_call blob) = image-number blob ∙ alone _
number (image_version_call blob) = image-number blob ∙ alone _
number (name_location_call blob name) = seek_number blob name
number (name_answer_call blob name) = seek_number blob name
number (directory_call blob) = directory-number blob ∙ alone _
number (entry_call blob i) = entry-number blob i ∙ alone _
number (manifest_version_call blob) = manifest_number_lem blob
number (huc_location_call which blob) = huc-number blob
number (huc_answer_call blob) = huc-number blob
number (huc_version_call blob) = huc-number blob
number (image_figures_call blob) = image_code blob ∙ image-number blob ∙ alone _
number (directory_figures_call blob) = directory-code blob ∙ directory-number blob ∙ alone _
number (entry_figures_call blob i) = entry-code blob i ∙ entry-number blob i ∙ alone _
number (manifest_figures_call blob) = manifest_code blob ∙ manifest_number_lem blob
number (huc_figures_call blob) = huc-code blob ∙ huc-number blob
number (fresh_call w n) = fresh-number w n
number (send_request_call w room m s d b) = send-number w room m s d b
number (reply_message_call w m) = reply-number w m
number (reply_dwords_call w dwords) = received-number w dwords

left : (x : PublicCall) → (number_of x ≡ 0 → ⊥) → LeftBy x
unfolding LeftBy Cpd.entries_of css_reading huc_reading manifest_reading
left (open_call d b) z = opening-refused d b z
left (operation_call op s d b) z = operation_refused op s d b z
left (pack_call m) z = refused_nothing 14 _ z
left (unpack_call dwords) z = refused_nothing 4 _ z
left (image_location_call which blob) z = location_refused _ _ (image-nowhere blob which (ne_eqb (Css.number blob) 0 z))
left (image_answer_call blob) z =
    (location_refused _ _ (image-nowhere blob Ucode (ne_eqb (Css.number blob) 0 z))).not_truncated
left (image_version_call blob) z = reading-refused _ _ z
left (name_location_call blob name) z =
    location_refused (Cpd.number blob name) _ (rw (name-nowhere blob name (ne_eqb (Cpd.number blob name) 0 z)))
left (name_answer_call blob name) z = tt
left (directory_call blob) z = rw (ne_eqb (Cpd.directory_number blob) 0 z)
left (entry_call blob i) z =
    location_refused (Cpd.entry_number blob i) _ (rw (entry-nowhere blob i (ne_eqb (Cpd.entry_number blob i) 0 z)))
left (manifest_version_call blob) z = reading-refused _ _ z
left (huc_location_call which blob) z = location_refused _ _ (huc-nowhere blob which (ne_eqb (huc_number blob) 0 z))
left (huc_answer_call blob) z = (location_refused _ _ (huc-nowhere blob Ucode (ne_eqb (huc_number blob) 0 z))).not_truncated
left (huc_version_call blob) z = reading-refused _ _ z
left (image_figures_call blob) z = (image-missing blob).missing z
left (directory_figures_call blob) z = (directory-missing blob).missing z
left (entry_figures_call blob i) z = (entry-missing blob i).missing z
left (manifest_figures_call blob) z = (manifest_missing blob).missing z
left (huc_figures_call blob) z = (huc-missing blob).missing z
left (fresh_call w n) z = fresh-refused w n z
left (send_request_call w room m s d b) z = send-refused w room m s d b z
left (reply_message_call w m) z = reply-refused w (some m) z
left (reply_dwords_call w dwords) z = reply-refused w (unpack dwords) z

demand1 : Demand1
unfolding open_by
demand1 =
    record {
      exact = λ x c. exactly (tests x) (number_of x) c (rise x) (number x);
      accepts = λ x. accepts (tests x) (number_of x) (rise x) (number x);
      left = left;
      opening-buffer = λ d b. refl;
      reserved_words_fact = operation_reserved;
      reserved_words_request = send-reserved;
      fit_no_call = no_call;
    }

pub returns : goal.returns
returns c = demand1
