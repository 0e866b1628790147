-- Requests in bytes: the body that some bytes encode, and why bytes are refused (this project's
-- profile, versions 1 to 3).
use Rattle.std.specs.Prelude.{◌≡◌, ℕ, Bool, true, false, ◌&&◌, ◌==◌, nat_le, List, [], ◌∷◌, length, Option, Some, None, is_none, is_some, if◌then◌else◌, slice_get, option_and_then, unwrap_or}
use Rattle.std.specs.Option.{option_map, option_map_or}
use Rattle.dsn_text.specs.Action.{action_byte}
use Rattle.dsn_outcome.specs.Draft.{Draft}
use Rattle.dsn_outcome.specs.Returned.{returned_byte, returned_of_byte}
use Rattle.dsn_outcome.specs.Wording.{wording_byte, wording_of_byte}
use Rattle.dsn_outcome.specs.declared.returned.Returned.TheVariants.{Header}
use Rattle.dsn_outcome.specs.declared.wording.Wording.TheVariants.{ByService}
use Rattle.dsn_outcome.specs.Outcome.{Outcome, Fields, IsOutcomeOf, first_outcome_fault, first_failed}
use Rattle.dsn_text.specs.Extension.{is_extension_text}
use Rattle.dsn_text.specs.Optional.{is_none_or, unless_empty}
use Rattle.dsn_outcome.specs.Request.{Body, Append, Flush, Discard, Forget, Bye}
use Rattle.dsn_text.specs.Service.{service_byte, service_of_byte}
use Rattle.dsn_text.specs.Stamp.{last_moment, is_moment}
use Rattle.dsn_text.specs.Text.{is_queue_id, is_address, is_envelope_id, longest_header}
use Rattle.dsn_text.specs.declared.key.Key.{Key}
use Rattle.dsn_text.specs.declared.service.Service.{Service}
use Rattle.dsn_frame.specs.bodies.BodyFault.{outcome_refusal}
use Rattle.dsn_frame.specs.bodies.FrameBody.{frame}
use Rattle.dsn_frame.specs.bodies.Wire.{Head, RecipientFields, RetryFields, TypeFields, FlushFields, WishFields, WireBody, AppendFields, DatedAppendFields, TypedAppendFields, FlushFieldsOf, CountedFlushFields, DiscardFields, ForgetFields, is_version, is_kind, is_known, head_of, body_bytes, Fits, body_at}
use Rattle.dsn_frame.specs.declared.bodies.body_fault.BodyFault.{BodyFault}
use Rattle.dsn_frame.specs.declared.bodies.body_fault.BodyFault.TheVariants as faults

-- ---- refusals

-- the second byte, if there is one, is a kind of the version in the first byte
unfoldable pub has_kind : List ℕ → Bool
has_kind bytes =
    option_map_or (λ version. option_map_or (is_kind version) (slice_get bytes 1) true)
    (slice_get bytes 0) true

-- the first and the second byte, if present, must be valid; then the fields must end with the body
abbrev pub layout_checks : List ℕ → List (Bool × BodyFault)
layout_checks bytes =
    (option_map_or is_version (slice_get bytes 0) true, faults.Version)
    ∷ (has_kind bytes, faults.Kind)
    ∷ (is_some (body_at bytes), faults.Short)
    ∷ (option_map_or (λ read. length read.1 == 0) (body_at bytes) false, faults.Extra)
    ∷ []

abbrev pub head_checks : Head → List (Bool × BodyFault)
head_checks head =
    (is_some (service_of_byte head.service), faults.Service)
    ∷ (is_queue_id head.id, faults.QueueId)
    ∷ []

abbrev pub flush_checks : FlushFields → WishFields → List (Bool × BodyFault)
flush_checks fields wishes =
    (nat_le fields.moment last_moment && nat_le fields.arrival last_moment, faults.Moment)
    ∷ (nat_le (length fields.header) longest_header, faults.Header)
    ∷ (is_none_or is_address (unless_empty fields.return_path), faults.ReturnPath)
    ∷ (is_none_or is_envelope_id (unless_empty fields.envelope_id), faults.EnvelopeId)
    ∷ (is_some (returned_of_byte wishes.returned), faults.Returned)
    ∷ (is_some (wording_of_byte wishes.wording), faults.Wording)
    ∷ (is_extension_text wishes.extensions, faults.Extensions)
    ∷ []

-- the first of two faults
abbrev pub or_else : {F : Type 0} → Option F → Option F → Option F
or_else (Some fault) later = Some fault
or_else None later = later

-- the number that means no moment: all ones
abbrev pub no_moment : ℕ
no_moment = 18_446_744_073_709_551_615

-- the moment that a number of an append means
abbrev pub moment_if_any : ℕ → Option ℕ
moment_if_any seconds = if seconds == no_moment then None else Some seconds

-- the number that means any number of outcomes: all ones
abbrev pub any_count : ℕ
any_count = 4_294_967_295

-- the number of outcomes that a version 3 flush expects, by its number field
abbrev pub count_if_any : ℕ → Option ℕ
count_if_any count = if count == any_count then None else Some count

-- the further terms of a flush of version 1 or 2: any number of outcomes, a header, words by the
-- service, and no extension field
abbrev pub usual_wishes : WishFields
usual_wishes = record { expected = any_count; returned = 0; wording = 0; extensions = [] }

abbrev pub retry_checks : RetryFields → List (Bool × BodyFault)
retry_checks dates = (
  is_none_or is_moment (moment_if_any dates.last_attempt)
      && is_none_or is_moment (moment_if_any dates.retry_until),
  faults.Moment,
)
    ∷ []

-- the usual types of an append's texts: all of them absent, and no extension field
abbrev pub usual_types : TypeFields
usual_types = record { recipient = []; original = []; diagnostic = []; extensions = [] }

-- the outcome's fields of an append with these types, extension fields and moments
abbrev pub outcome_fields : RecipientFields → TypeFields → Option ℕ → Option ℕ → Fields
outcome_fields fields types last_attempt retry_until = record {
  recipient = fields.recipient;
  recipient_type = types.recipient;
  original = fields.original;
  original_type = types.original;
  action = fields.action;
  status = fields.status;
  mta = fields.mta;
  diagnostic = fields.diagnostic;
  diagnostic_type = types.diagnostic;
  reason = fields.reason;
  last_attempt = last_attempt;
  retry_until = retry_until;
  extensions = types.extensions;
}

-- the outcome's fields of an append of each version
abbrev pub undated_fields : RecipientFields → Fields
undated_fields fields = outcome_fields fields usual_types None None

abbrev pub typed_fields : RecipientFields → RetryFields → TypeFields → Fields
typed_fields fields dates types =
    outcome_fields fields types (moment_if_any dates.last_attempt) (moment_if_any dates.retry_until)

abbrev pub dated_fields : RecipientFields → RetryFields → Fields
dated_fields fields dates = typed_fields fields dates usual_types

-- the first fault of the outcome of an append, given its service
abbrev pub first_append_fault : Head → Fields → Option BodyFault
first_append_fault head fields =
    option_and_then (λ service. option_map outcome_refusal (first_outcome_fault service fields))
    (service_of_byte head.service)

-- the first fault of the fields after the head; an append's moments are checked before its outcome
unfoldable pub first_own_fault : WireBody → Option BodyFault
first_own_fault (AppendFields head fields) = first_append_fault head (undated_fields fields)
first_own_fault (DatedAppendFields head fields dates) =
    or_else (first_failed (retry_checks dates))
    (first_append_fault head (dated_fields fields dates))
first_own_fault (TypedAppendFields head fields dates types) =
    or_else (first_failed (retry_checks dates))
    (first_append_fault head (typed_fields fields dates types))
first_own_fault (FlushFieldsOf head fields) = first_failed (flush_checks fields usual_wishes)
first_own_fault (CountedFlushFields head fields wishes) =
    first_failed (flush_checks fields wishes)
first_own_fault (DiscardFields head) = None
first_own_fault (ForgetFields head) = None

-- the first fault of a body's fields; those of its key come first
abbrev pub first_field_fault : WireBody → Option BodyFault
first_field_fault wire = or_else (first_failed (head_checks (head_of wire))) (first_own_fault wire)

-- the first fault of a body, if it has one; its layout is checked before its fields
unfoldable pub first_body_fault : List ℕ → Option BodyFault
first_body_fault bytes =
    or_else (first_failed (layout_checks bytes))
    (option_and_then (λ read. first_field_fault read.0) (body_at bytes))

-- ---- the meaning of a body

-- the draft that a flush's fields encode
abbrev pub draft_of : FlushFields → WishFields → Draft
draft_of fields wishes = record {
  moment = fields.moment;
  arrival = fields.arrival;
  return_path = unless_empty fields.return_path;
  envelope_id = unless_empty fields.envelope_id;
  header = fields.header;
  extensions = wishes.extensions;
  expected = count_if_any wishes.expected;
  returned = unwrap_or (returned_of_byte wishes.returned) Header;
  wording = unwrap_or (wording_of_byte wishes.wording) ByService;
}

pub record IsKeyOf (head : Head) (key : Key) : Type 0 where
  pub service_is : service_of_byte head.service ≡ Some key.service
  pub id_is : key.id ≡ head.id

pub record IsAppendOf (head : Head) (fields : Fields) (id : List ℕ)
    (outcome : Outcome) : Type 0 where
  pub service_is : service_of_byte head.service ≡ Some outcome.service
  pub id_is : id ≡ head.id
  pub outcome_is : IsOutcomeOf outcome.service fields outcome

-- the request that fields encode, with their values, except that an outcome's diagnostic and reason
-- are cleaned
unfoldable pub StandsFor : WireBody → Body → Type 0
StandsFor (AppendFields head fields) (Append id outcome) =
    IsAppendOf head (undated_fields fields) id outcome
StandsFor (DatedAppendFields head fields dates) (Append id outcome) =
    IsAppendOf head (dated_fields fields dates) id outcome
StandsFor (TypedAppendFields head fields dates types) (Append id outcome) =
    IsAppendOf head (typed_fields fields dates types) id outcome
StandsFor (FlushFieldsOf head fields) (Flush key draft) =
    IsKeyOf head key × (draft ≡ draft_of fields usual_wishes)
StandsFor (CountedFlushFields head fields wishes) (Flush key draft) =
    IsKeyOf head key × (draft ≡ draft_of fields wishes)
StandsFor (DiscardFields head) (Discard key) = IsKeyOf head key
StandsFor (ForgetFields head) (Forget key) = IsKeyOf head key
StandsFor wire body = ⊥

-- bytes that are laid out as a request with this number and body, in a version that has its kind;
-- no bytes encode a goodbye
pub record Encodes (bytes : List ℕ) (number : ℕ) (body : Body) : Type 0 where
  pub wire : WireBody
  pub laid_out : bytes ≡ body_bytes wire
  pub known : is_known wire ≡ true
  pub fits : Fits wire
  pub number_is : number ≡ (head_of wire).number
  pub accepted : first_field_fault wire ≡ None
  pub stands_for : StandsFor wire body

-- ---- how a request is written

-- a text that is there, or the empty one
abbrev pub text_or_empty : Option (List ℕ) → List ℕ
text_or_empty None = []
text_or_empty (Some text) = text

abbrev pub head_for : ℕ → ℕ → Service → List ℕ → Head
head_for version number service id =
    record { version = version; number = number; service = service_byte service; id = id }

-- an outcome's texts are written as it keeps them, so its diagnostic and reason are clean
abbrev pub fields_for : Outcome → RecipientFields
fields_for outcome = record {
  recipient = outcome.recipient;
  original = text_or_empty outcome.original;
  action = action_byte outcome.action;
  status = outcome.status;
  mta = text_or_empty outcome.mta;
  diagnostic = text_or_empty outcome.diagnostic;
  reason = text_or_empty outcome.reason;
}

-- a moment that is there, or all ones
abbrev pub moment_or_none : Option ℕ → ℕ
moment_or_none None = no_moment
moment_or_none (Some moment) = moment

abbrev pub retry_fields_for : Outcome → RetryFields
retry_fields_for outcome = record {
  last_attempt = moment_or_none outcome.last_attempt;
  retry_until = moment_or_none outcome.retry_until;
}

abbrev pub type_fields_for : Outcome → TypeFields
type_fields_for outcome = record {
  recipient = text_or_empty outcome.recipient_type;
  original = text_or_empty outcome.original_type;
  diagnostic = text_or_empty outcome.diagnostic_type;
  extensions = outcome.extensions;
}

-- no text of an outcome has a type, and it has no extension field: version 2 of an append can
-- express it
abbrev pub has_usual_types : Outcome → Bool
has_usual_types outcome =
    is_none outcome.recipient_type
    && (is_none outcome.original_type
    && (is_none outcome.diagnostic_type && (length outcome.extensions == 0)))

-- An append is written in version 3 if its outcome has a type or an extension field. Otherwise it
-- is written in version 2 if it has a moment, and in version 1 if it has none.
unfoldable pub append_written_as : ℕ → List ℕ → Outcome → WireBody
append_written_as number id outcome =
    if has_usual_types outcome
    then (if is_none outcome.last_attempt && is_none outcome.retry_until
    then AppendFields (head_for 1 number outcome.service id) (fields_for outcome)
    else DatedAppendFields (head_for 2 number outcome.service id) (fields_for outcome)
    (retry_fields_for outcome))
    else TypedAppendFields (head_for 3 number outcome.service id) (fields_for outcome)
    (retry_fields_for outcome) (type_fields_for outcome)

abbrev pub flush_fields_for : Draft → FlushFields
flush_fields_for draft = record {
  moment = draft.moment;
  arrival = draft.arrival;
  return_path = text_or_empty draft.return_path;
  envelope_id = text_or_empty draft.envelope_id;
  header = draft.header;
}

-- the expected number of outcomes, or all ones
abbrev pub count_or_any : Option ℕ → ℕ
count_or_any None = any_count
count_or_any (Some expected) = expected

abbrev pub wish_fields_for : Draft → WishFields
wish_fields_for draft = record {
  expected = count_or_any draft.expected;
  returned = returned_byte draft.returned;
  wording = wording_byte draft.wording;
  extensions = draft.extensions;
}

-- all further terms are the usual ones
abbrev pub are_usual : WishFields → Bool
are_usual wishes =
    (wishes.expected == any_count)
    && ((wishes.returned == 0) && ((wishes.wording == 0) && (length wishes.extensions == 0)))

-- a flush is written in version 1 if all its further terms are the usual ones
unfoldable pub flush_written_as : ℕ → Key → Draft → WireBody
flush_written_as number key draft =
    if are_usual (wish_fields_for draft)
    then FlushFieldsOf (head_for 1 number key.service key.id) (flush_fields_for draft)
    else CountedFlushFields (head_for 3 number key.service key.id) (flush_fields_for draft)
    (wish_fields_for draft)

-- the fields that a body with this number is written as, in the lowest version that can express it;
-- a goodbye has none
unfoldable pub fields_written : ℕ → Body → Option WireBody
fields_written number (Append id outcome) = Some (append_written_as number id outcome)
fields_written number (Flush key draft) = Some (flush_written_as number key draft)
fields_written number (Discard key) = Some (DiscardFields (head_for 1 number key.service key.id))
fields_written number (Forget key) = Some (ForgetFields (head_for 2 number key.service key.id))
fields_written number Bye = None

-- the bytes that a body is written as; none for a goodbye
unfoldable pub request_body : ℕ → Body → List ℕ
request_body number body = option_map_or body_bytes (fields_written number body) []

-- a request's frame
unfoldable pub request_bytes : ℕ → Body → List ℕ
request_bytes number body = frame (request_body number body)
