-- The fields of a body as the program's references hold them.
use Rattle.std.specs.Prelude.{◌≡◌, ℕ, List, [], Some, None, ◌+◌, true, length, ◌≤◌}
use Rattle.dsn_frame.specs.bodies.Request.{layout_checks, first_field_fault, StandsFor}
use Rattle.dsn_frame.specs.bodies.Wire.{Head, RecipientFields, RetryFields, TypeFields, FlushFields, WishFields, WireBody, AppendFields, DatedAppendFields, TypedAppendFields, FlushFieldsOf, CountedFlushFields, DiscardFields, ForgetFields, body_at, is_known, head_of, own_bytes, Fits}
use Rattle.dsn_frame.specs.declared.bodies.body_parts.BodyParts.TheVariants as parts
use Rattle.dsn_frame.specs.declared.bodies.body_parts.BodyParts.{BodyParts}
use Rattle.dsn_frame.specs.declared.bodies.body_parts.FlushParts.{FlushParts}
use Rattle.dsn_frame.specs.declared.bodies.body_parts.HeadParts.{HeadParts}
use Rattle.dsn_frame.specs.declared.bodies.body_parts.RecipientParts.{RecipientParts}
use Rattle.dsn_frame.specs.declared.bodies.body_parts.RetryParts.{RetryParts}
use Rattle.dsn_frame.specs.declared.bodies.body_parts.TypeParts.{TypeParts}
use Rattle.dsn_frame.specs.declared.bodies.body_parts.WishParts.{WishParts}
use Rattle.dsn_outcome.specs.Outcome.{first_failed}
use Rattle.dsn_outcome.specs.Request.{Body}
use Rattle.dsn_text.specs.Extension.{longest_extension_text}
use Rattle.dsn_text.specs.Text.{longest_address, longest_envelope_id, longest_header, longest_queue_id}

-- the texts that the references point to
abbrev pub head_in : HeadParts → Head
head_in parts =
    record {
      version = parts.version;
      number = parts.number;
      service = parts.service;
      id = parts.id.now;
    }

abbrev pub recipient_fields_in : RecipientParts → RecipientFields
recipient_fields_in parts = record {
  recipient = parts.recipient.now;
  original = parts.original.now;
  action = parts.action;
  status = parts.status.now;
  mta = parts.mta.now;
  diagnostic = parts.diagnostic.now;
  reason = parts.reason.now;
}

abbrev pub retry_fields_in : RetryParts → RetryFields
retry_fields_in parts =
    record { last_attempt = parts.last_attempt; retry_until = parts.retry_until }

abbrev pub type_fields_in : TypeParts → TypeFields
type_fields_in parts = record {
  recipient = parts.types.recipient.now;
  original = parts.types.original.now;
  diagnostic = parts.types.diagnostic.now;
  extensions = parts.extensions.now;
}

abbrev pub flush_fields_in : FlushParts → FlushFields
flush_fields_in parts = record {
  moment = parts.moment;
  arrival = parts.arrival;
  return_path = parts.return_path.now;
  envelope_id = parts.envelope_id.now;
  header = parts.header.now;
}

abbrev pub wish_fields_in : WishParts → WishFields
wish_fields_in parts = record {
  expected = parts.expected;
  returned = parts.returned;
  wording = parts.wording;
  extensions = parts.extensions.now;
}

abbrev pub wire_body_in : BodyParts → WireBody
wire_body_in (parts.Append head fields) = AppendFields (head_in head) (recipient_fields_in fields)
wire_body_in (parts.DatedAppend head fields dates) =
    DatedAppendFields (head_in head) (recipient_fields_in fields) (retry_fields_in dates)
wire_body_in (parts.TypedAppend head fields dates types) =
    TypedAppendFields (head_in head) (recipient_fields_in fields) (retry_fields_in dates)
    (type_fields_in types)
wire_body_in (parts.Flush head fields) = FlushFieldsOf (head_in head) (flush_fields_in fields)
wire_body_in (parts.CountedFlush head fields wishes) =
    CountedFlushFields (head_in head) (flush_fields_in fields) (wish_fields_in wishes)
wire_body_in (parts.Discard head) = DiscardFields (head_in head)
wire_body_in (parts.Forget head) = ForgetFields (head_in head)

-- bytes that hold exactly the fields of one body
pub record IsWhole (bytes : List ℕ) (wire : WireBody) : Type 0 where
  pub accepted : first_failed (layout_checks bytes) ≡ None
  pub read : body_at bytes ≡ Some (wire, [])

-- The most bytes that follow the queue id of a body, those of a version 3 flush with texts of the
-- greatest lengths. Its two moments, four lengths, count and two bytes take 30.
abbrev pub longest_own : ℕ
longest_own =
    30 + (longest_address + (longest_envelope_id + (longest_header + longest_extension_text)))

-- the fields that a body is written as: they pass every check, they encode the body, and they fit a
-- frame
pub record IsWritten (number : ℕ) (body : Body) (wire : WireBody) : Type 0 where
  pub number_is : (head_of wire).number ≡ number
  pub known : is_known wire ≡ true
  pub fits : Fits wire
  pub id_short : length (head_of wire).id ≤ longest_queue_id
  pub own_short : length (own_bytes wire) ≤ longest_own
  pub accepted : first_field_fault wire ≡ None
  pub stands_for : StandsFor wire body
