-- The customer's demand 1: any input gets an answer, refusals are given exactly when document 01 says, with what the
-- landed requests of document 02 add, in its order, and leave what its table says.
-- Each call, the number that it answers, and one statement, Demand1, over the rows of Table.antt and WallRows.antt.
use Rattle.std.specs.Prelude.{ℕ, ◌<◌, ◌≡◌, ◌↔◌, false, List, [], ◌∷◌, ◌++◌}
use Rattle.std.proofs.Math.Option.{none, some}
use Rattle.message.specs.Packing.{pack_answer, unpack, unpack_answer}
use Rattle.message.specs.declared.Message.{Message}
use Rattle.channel.specs.State.{State, idle_at}
use Rattle.channel.specs.Opening.{opening}
use Rattle.channel.specs.Operations.{Op, gives}
use Rattle.firmware.specs.Css
use Rattle.firmware.specs.Cpd
use Rattle.firmware.specs.Inside
use Rattle.firmware.specs.Version.{css_reading, huc_reading, manifest_reading}
use Rattle.firmware.specs.Figures.{Measures, image_figures, directory_figures, entry_figures, manifest_figures, huc_figures}
use Rattle.firmware.specs.Bytes.{Location}
use Rattle.firmware.specs.declared.css.Component.{Component}
use Rattle.requests.specs.Calls.{Wall, fresh, reply}
use Rattle.requests.specs.Opening.{send_for, sending}
use Rattle.refusals.specs.Order.{Row, Answered, AllPass}
use Rattle.refusals.specs.Table.{fits, row_4, row_14_fields, opening_rows, operation_rows}
use Rattle.refusals.specs.Table.{image_rows, directory_rows, seek_tests, entry_rows, manifest_rows}
use Rattle.refusals.specs.WallRows.{fresh_tests, send_request_tests, reply_message_tests, reply_dwords_tests}
use Rattle.refusals.specs.Left.{OperationRefused, OpeningRefused, WallRefused, RequestRefused, ReservedStay}

-- ---- the calls that the paper names, and ours beside them, with all that each is given

-- With each stand the functions whose contracts cite its definition. Functions that a crate only lends to those above
-- it (the decisions of `ring` and `channel`, whole calls at once, and the plans of `requests`) are held to the chains
-- themselves. `guc` has these calls under C's names, and what it refuses beyond them (100, 101, an origin that is no
-- bit, and a field that a type does not have) is in guc/specs. `side`'s calls for all the moves that are left stand for
-- moves, and their numbers are in delivery/specs/HalfWhole.
pub data PublicCall : Type 0 where
  -- channel::open_channel, side::open_channel
  open_call : List ℕ → List ℕ → PublicCall
  -- the steps and whole calls: Sender::look, ::store, ::publish, ::send; Receiver::look, ::copy, ::publish, ::receive;
  -- `side` has each in words
  operation_call : Op → State → List ℕ → List ℕ → PublicCall
  -- message::pack, ::unpack
  pack_call : Message → PublicCall
  unpack_call : List ℕ → PublicCall
  -- an image: css_located (what it locates is handed out by css_part, ucode, rsa, modulus, exponent), css_answer,
  -- css_version
  image_location_call : Component → List ℕ → PublicCall
  image_answer_call : List ℕ → PublicCall
  image_version_call : List ℕ → PublicCall
  -- a name sought in a directory: cpd_located (handed out by cpd_part), cpd_answer
  name_location_call : List ℕ → List ℕ → PublicCall
  name_answer_call : List ℕ → List ℕ → PublicCall
  -- ours, for a list of all entries: cpd_directory, cpd_entry (cpd_name and cpd_has_name answer no number)
  directory_call : List ℕ → PublicCall
  entry_call : List ℕ → ℕ → PublicCall
  -- inside a directory: manifest_version; huc_located (handed out by huc_part, huc_ucode, huc_rsa, huc_modulus,
  -- huc_exponent), huc_answer, huc_version
  manifest_version_call : List ℕ → PublicCall
  huc_location_call : Component → List ℕ → PublicCall
  huc_answer_call : List ℕ → PublicCall
  huc_version_call : List ℕ → PublicCall
  -- ours, the number with bytes needed and there: css_figures, cpd_figures, cpd_entry_figures, manifest_figures, huc_figures
  -- (css_sizes and cpd_marker answer no number)
  image_figures_call : List ℕ → PublicCall
  directory_figures_call : List ℕ → PublicCall
  entry_figures_call : List ℕ → ℕ → PublicCall
  manifest_figures_call : List ℕ → PublicCall
  huc_figures_call : List ℕ → PublicCall
  -- a wall's calls, with its table, its last fence and its reply buffer's N. Making one fresh, with the N asked for:
  -- wall::fresh (guc_wall_fresh)
  fresh_call : Wall → ℕ → PublicCall
  -- an opening, with the reply dwords set aside, the message, and the sender's state, descriptor and buffer: wall::send
  -- (guc_wall_send)
  send_request_call : Wall → ℕ → List ℕ → State → List ℕ → List ℕ → PublicCall
  -- a reply, decoded: requests::reply with wall::reply; and by its dwords: requests::received with wall::reply
  -- (guc_wall_reply). requests::age answers no number
  reply_message_call : Wall → Message → PublicCall
  reply_dwords_call : Wall → List ℕ → PublicCall

-- the number that a call answers, by the definition that its contract cites. (`wall::reply` cites
-- `replying`, and what is heard of a message `heard_of`: `reply` is the two together.)
abbrev pub number_of : PublicCall → ℕ
number_of (open_call d b) = (opening d b).code
number_of (operation_call op s d b) = (gives op s d b).code
number_of (pack_call m) = (pack_answer m).number
number_of (unpack_call dwords) = (unpack_answer dwords).number
number_of (image_location_call which blob) = (Css.located which blob).code
number_of (image_answer_call blob) = (Css.answer blob).code
number_of (image_version_call blob) = (css_reading blob).number
number_of (name_location_call blob name) = (Cpd.located blob name).code
number_of (name_answer_call blob name) = Cpd.number blob name
number_of (directory_call blob) = (Cpd.entries_of blob).code
number_of (entry_call blob i) = (Cpd.entry_located blob i).code
number_of (manifest_version_call blob) = (manifest_reading blob).number
number_of (huc_location_call which blob) = (Inside.huc_located which blob).code
number_of (huc_answer_call blob) = (Inside.huc_answer blob).code
number_of (huc_version_call blob) = (huc_reading blob).number
number_of (image_figures_call blob) = (image_figures blob).code
number_of (directory_figures_call blob) = (directory_figures blob).code
number_of (entry_figures_call blob i) = (entry_figures blob i).code
number_of (manifest_figures_call blob) = (manifest_figures blob).code
number_of (huc_figures_call blob) = (huc_figures blob).code
number_of (fresh_call w n) = (fresh w n).answer.code
number_of (send_request_call w room m s d b) = (sending w room m s d b).answer.code
number_of (reply_message_call w m) = (reply w (some m)).answer.code
number_of (reply_dwords_call w dwords) = (reply w (unpack dwords)).answer.code

-- 'a part inside a directory is judged only after the directory's own numbers, 14 to 21, have passed', 22 among them
-- since T-03: 'The manifest and CSS readings inside a directory pass 22 on and promise it.'
abbrev pub manifest_tests : List ℕ → List (List Row)
manifest_tests blob =
    seek_tests blob Inside.manifest_name ++ (manifest_rows (Inside.part_named blob Inside.manifest_name) ∷ [])

abbrev pub huc_tests : List ℕ → List (List Row)
huc_tests blob = seek_tests blob Inside.huc_name ++ (image_rows (Inside.huc_blob blob) ∷ [])

-- the tests that a call makes, one after another, each with its rows of the table
abbrev pub tests : PublicCall → List (List Row)
tests (open_call d b) = opening_rows d b ∷ []
tests (operation_call op s d b) = operation_rows op s d b ∷ []
tests (pack_call m) = (row_14_fields m ∷ []) ∷ []
tests (unpack_call dwords) = (row_4 dwords ∷ []) ∷ []
tests (image_location_call which blob) = image_rows blob ∷ []
tests (image_answer_call blob) = image_rows blob ∷ []
tests (image_version_call blob) = image_rows blob ∷ []
tests (name_location_call blob name) = seek_tests blob name
tests (name_answer_call blob name) = seek_tests blob name
tests (directory_call blob) = directory_rows blob ∷ []
tests (entry_call blob i) = entry_rows blob i ∷ []
tests (manifest_version_call blob) = manifest_tests blob
tests (huc_location_call which blob) = huc_tests blob
tests (huc_answer_call blob) = huc_tests blob
tests (huc_version_call blob) = huc_tests blob
tests (image_figures_call blob) = image_rows blob ∷ []
tests (directory_figures_call blob) = directory_rows blob ∷ []
tests (entry_figures_call blob i) = entry_rows blob i ∷ []
tests (manifest_figures_call blob) = manifest_tests blob
tests (huc_figures_call blob) = huc_tests blob
tests (fresh_call w n) = fresh_tests w n
tests (send_request_call w room m s d b) = send_request_tests w room m s d b
tests (reply_message_call w m) = reply_message_tests w m
tests (reply_dwords_call w dwords) = reply_dwords_tests w dwords

-- ---- what a refused call leaves and gives

-- 'a refused location gives the empty part at the start of the lent blob (the outer one, inside a directory)'
pub record LocationRefused (l : Location) : Type 0 where
  pub at-start : l.start ≡ 0
  pub empty : l.len ≡ 0
  pub not_truncated : l.truncated ≡ false

-- ours: fewer bytes are there than a refused number asks for, or it asks for none
abbrev pub FiguresRefused : Measures → Type 0
FiguresRefused f = (f.needed ≡ 0 → ⊥) → f.there < f.needed

-- Blobs, names and messages are lent to be read only: that they stay is a matter of type.
unfoldable pub LeftBy : PublicCall → Type 0
LeftBy (open_call d b) = OpeningRefused d b (opening d b)
LeftBy (operation_call op s d b) = OperationRefused op s d b (gives op s d b)
-- 'A refused packing answers no dword, a refused unpacking no message'
LeftBy (pack_call m) = (pack_answer m).value ≡ none
LeftBy (unpack_call dwords) = (unpack_answer dwords).value ≡ none
LeftBy (image_location_call which blob) = LocationRefused (Css.located which blob)
LeftBy (image_answer_call blob) = (Css.answer blob).truncated ≡ false
LeftBy (name_location_call blob name) = LocationRefused (Cpd.located blob name)
-- it answers nothing but its number
LeftBy (name_answer_call blob name) = Unit {0}
LeftBy (directory_call blob) = (Cpd.entries_of blob).count ≡ 0
LeftBy (entry_call blob i) = LocationRefused (Cpd.entry_located blob i)
LeftBy (huc_location_call which blob) = LocationRefused (Inside.huc_located which blob)
LeftBy (huc_answer_call blob) = (Inside.huc_answer blob).truncated ≡ false
-- 'a refused version reading no version'
LeftBy (image_version_call blob) = (css_reading blob).version ≡ []
LeftBy (manifest_version_call blob) = (manifest_reading blob).version ≡ []
LeftBy (huc_version_call blob) = (huc_reading blob).version ≡ []
-- bytes are missing by the figures, or the number asks for none
LeftBy (image_figures_call blob) = FiguresRefused (image_figures blob)
LeftBy (directory_figures_call blob) = FiguresRefused (directory_figures blob)
LeftBy (entry_figures_call blob i) = FiguresRefused (entry_figures blob i)
LeftBy (manifest_figures_call blob) = FiguresRefused (manifest_figures blob)
LeftBy (huc_figures_call blob) = FiguresRefused (huc_figures blob)
-- a wall stays, and no figure is answered
LeftBy (fresh_call w n) = WallRefused w (fresh w n).answer (fresh w n).wall
LeftBy (send_request_call w room m s d b) = RequestRefused w room m s d b (sending w room m s d b)
LeftBy (reply_message_call w m) = WallRefused w (reply w (some m)).answer (reply w (some m)).wall
LeftBy (reply_dwords_call w dwords) = WallRefused w (reply w (unpack dwords)).answer (reply w (unpack dwords)).wall

-- ---- the demand

pub record Demand1 : Type 0 where
  -- a call answers c exactly when c is, of the first of its tests to which any number applies, the lowest that does
  pub exact : (x : PublicCall) (c : ℕ) → (number_of x ≡ c) ↔ Answered (tests x) c
  -- and 0 exactly when none applies
  pub accepts : (x : PublicCall) → (number_of x ≡ 0) ↔ AllPass (tests x)
  pub left : (x : PublicCall) → (number_of x ≡ 0 → ⊥) → LeftBy x
  -- 'Opening .. leaves the buffer'; refused, its states are 'made for N 0, which fit no call'
  pub opening-buffer : (d b : List ℕ) → (opening d b).buf ≡ b
  pub fit_no_call : (op : Op) (n : ℕ) → fits op n (idle_at 0 0) ≡ false
  -- 'Reserved words are neither judged nor changed'
  pub reserved_words_fact : (op : Op) (s : State) (b : List ℕ) → ReservedStay (λ (d : List ℕ). gives op s d b)
  -- 'Reserved words are neither judged nor changed' by an opening that sends either: its answer and its wall follow from
  -- the number in what the sender gives (`sending`)
  pub reserved_words_request :
      (w : Wall) (room : ℕ) (m : List ℕ) (s : State) (b : List ℕ) → ReservedStay (λ (d : List ℕ). send_for w room m s d b)
