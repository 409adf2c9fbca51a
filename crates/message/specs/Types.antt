-- The types of HXG messages (document 01, 'Messages'): the number of each, its fields, and which types are known.
-- Document 02 (T-02) corrects document 01 here: 'The current public HXG header lists type 2, a fast request, which
-- wants no success reply and is laid out as a request.' Linux names it GUC_HXG_TYPE_FAST_REQUEST. To the channel one
-- known type is as good as another: who wants which reply is its callers' matter.
use Rattle.std.specs.Prelude.{ℕ, ◌≡◌, ◌≢◌, Bool, true, false, cond, List, [], ◌∷◌, eqb, Result, MatchResult}
use Rattle.std.proofs.Math.Option.{Option, none, some}
use Rattle.message.specs.Fields.{Field, request_data, request_action, event_data, event_action}
use Rattle.message.specs.Fields.{fast_request_data, fast_request_action, busy_counter, retry_reason, failure_hint}
use Rattle.message.specs.Fields.{failure_error, success_data, type, field_of, FieldValue}
use Rattle.message.specs.declared.Body.{Body}
use Rattle.message.specs.declared.Body.TheVariants.{Request, Event, FastRequest, Busy, Retry, Failure, Success}
use Rattle.message.specs.declared.header.Type as kind
use Rattle.message.specs.declared.header.Type.TheVariants as kinds
use Rattle.message.specs.declared.header.UnknownType.{UnknownType}

-- the columns 'Type' and 'Meaning' of the table: 0 request, 1 event, 2 fast request, 3 busy, 5 retry, 6 failure, 7
-- success
unfoldable pub type_of : Body → ℕ
type_of (Request d a) = 0
type_of (Event d a) = 1
type_of (FastRequest d a) = 2
type_of (Busy c) = 3
type_of (Retry r) = 5
type_of (Failure h e) = 6
type_of (Success d) = 7

-- the same by the code's enum of types
abbrev pub type_number : kind.Type → ℕ
type_number kinds.Request = 0
type_number kinds.Event = 1
type_number kinds.FastRequest = 2
type_number kinds.Busy = 3
type_number kinds.Retry = 5
type_number kinds.Failure = 6
type_number kinds.Success = 7

-- what is found for a number: the type that has it, or the number itself where no type does
abbrev pub IsTypeOf : ℕ → Result kind.Type UnknownType → Type 0
IsTypeOf n r = MatchResult r (λ t. type_number t ≡ n) (λ e. (e.0 ≡ n) × ((t : kind.Type) → type_number t ≢ n))

-- the column 'Fields': those of each type, with the number that the body carries in each
unfoldable pub carried : Body → List FieldValue
carried (Request d a) = (request_data, d) ∷ (request_action, a) ∷ []
carried (Event d a) = (event_data, d) ∷ (event_action, a) ∷ []
carried (FastRequest d a) = (fast_request_data, d) ∷ (fast_request_action, a) ∷ []
carried (Busy c) = (busy_counter, c) ∷ []
carried (Retry r) = (retry_reason, r) ∷ []
carried (Failure h e) = (failure_hint, h) ∷ (failure_error, e) ∷ []
carried (Success d) = (success_data, d) ∷ []

-- both: what a dword of the body's type holds below its origin
unfoldable pub body_fields : Body → List FieldValue
body_fields b = (type, type_of b) ∷ carried b

-- the body of each known type, by the number of each field
unfoldable pub bodies_from : (Field → ℕ) → List Body
bodies_from number_of =
    Request (number_of request_data) (number_of request_action)
    ∷ Event (number_of event_data) (number_of event_action)
    ∷ FastRequest (number_of fast_request_data) (number_of fast_request_action)
    ∷ Busy (number_of busy_counter)
    ∷ Retry (number_of retry_reason)
    ∷ Failure (number_of failure_hint) (number_of failure_error)
    ∷ Success (number_of success_data)
    ∷ []

-- the same, with the fields read from an HXG dword 0
unfoldable pub bodies : ℕ → List Body
bodies word = bodies_from (λ f. field_of f word)

-- the body of that type among some, or none
unfoldable pub of_type : ℕ → List Body → Option Body
of_type t [] = none
of_type t (b ∷ bs) = cond (eqb t (type_of b)) (some b) (of_type t bs)

-- the body that an HXG dword 0 holds; none where its type is unknown
unfoldable pub body_of : ℕ → Option Body
body_of word = of_type (field_of type word) (bodies word)

-- whether there is one
unfoldable pub some_body : Option Body → Bool
some_body none = false
some_body (some b) = true

-- the type of an HXG dword 0 is known
unfoldable pub known : ℕ → Bool
known word = some_body (body_of word)
