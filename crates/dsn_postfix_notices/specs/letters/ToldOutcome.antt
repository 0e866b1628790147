-- What a log's record says of a recipient, as the fields of an outcome. Postfix writes the same in its own notices,
-- except that an outcome's diagnostic or reason ends after 800 bytes.
use Rattle.std.specs.Prelude.{ℕ, ◌==◌, ◌&&◌, Bool, true, List, [], ◌∷◌, take, codes, Option, Some, None, unwrap_or, if◌then◌else◌}
use Rattle.std.specs.List.{before_first, after_first}
use Rattle.std.specs.Option.{option_map, option_map_or}
use Rattle.std.specs.Str.{bytes_eq, str_eq_ignore_ascii_case}
use Rattle.dsn_outcome.specs.Outcome.{Fields, Outcome as ToldOutcome, first_outcome_fault}
use Rattle.dsn_text.specs.Action.{action_byte, action_of_byte, action_of_word}
use Rattle.dsn_text.specs.Optional.{unless_empty}
use Rattle.dsn_text.specs.Text.{clean_text, longest_clean}
use Rattle.dsn_text.specs.declared.action.Action.TheVariants.{Failed}
use Rattle.dsn_text.specs.declared.service.Service.{Service}
use Rattle.dsn_postfix_files.specs.LogRecord.{LoggedFields}
use Rattle.dsn_postfix_notices.specs.declared.letters.letter_fault.LetterFault.{LetterFault}
use Rattle.dsn_postfix_notices.specs.declared.letters.letter_fault.LetterFault.TheVariants.{RemoteType}
use Rattle.dsn_postfix_notices.specs.letters.LetterFault.{of_outcome}
use Rattle.dsn_postfix_notices.specs.letters.PlainStatus.{plain_status}

-- a text with its type; an empty type means the usual one
pub record TypedText : Type 0 where
  pub kind : List ℕ
  pub text : List ℕ

abbrev pub is_semicolon : ℕ → Bool
is_semicolon byte = byte == 59

-- the original recipient: a type, a semicolon and an address, as the sender gave them (RFC 3461 section 4.2), or else
-- the address before it was rewritten
abbrev pub original_said : List ℕ → List ℕ → TypedText
original_said [] rewritten = record { kind = []; text = rewritten }
original_said (byte ∷ said) rewritten = record {
  kind = before_first is_semicolon (byte ∷ said);
  text = after_first is_semicolon (byte ∷ said);
}

-- the type of an address that has no explicit type (RFC 3464 section 2.3.1)
abbrev pub is_usual_type : List ℕ → Bool
is_usual_type [] = true
is_usual_type (byte ∷ kind) = str_eq_ignore_ascii_case (byte ∷ kind) (codes "rfc822")

-- The original recipient, unless it is the final one. Postfix logs the address of each RCPT command as if its sender
-- had given it by ORCPT (RFC 3461 section 4.2). If it is the final address, nothing shows whether the sender did.
abbrev pub unless_final : List ℕ → TypedText → TypedText
unless_final recipient original =
    if is_usual_type original.kind && bytes_eq original.text recipient then record { kind = []; text = [] } else original

abbrev pub original_told : LoggedFields → TypedText
original_told fields = unless_final fields.recipient (original_said fields.dsn_original fields.original_recipient)

-- if no remote system gave a diagnostic, the mail system's own reason takes its place
abbrev pub reason_said : List ℕ → TypedText
reason_said [] = record { kind = []; text = [] }
reason_said (byte ∷ reason) = record {
  kind = codes "X-Postfix";
  text = take longest_clean (byte ∷ reason);
}

abbrev pub diagnostic_said : List ℕ → List ℕ → List ℕ → TypedText
diagnostic_said [] text reason = reason_said reason
diagnostic_said (first ∷ kind) [] reason = reason_said reason
diagnostic_said (first ∷ kind) (byte ∷ text) reason = record {
  kind = first ∷ kind;
  text = take longest_clean (byte ∷ text);
}

-- the byte of the action that a word names, or 0, which is no action's
abbrev pub action_said : List ℕ → ℕ
action_said word = option_map_or action_byte (action_of_word word) 0

-- the fields of the outcome; `until` is the moment until which delivery is tried, if it is reported
abbrev pub fields_told : Option ℕ → LoggedFields → Fields
fields_told until fields = record {
  recipient = fields.recipient;
  recipient_type = [];
  original = (original_told fields).text;
  original_type = (original_told fields).kind;
  action = action_said fields.action;
  status = plain_status fields.status;
  mta = fields.mta_name;
  diagnostic = (diagnostic_said fields.diagnostic_type fields.diagnostic_text fields.reason).text;
  diagnostic_type = (diagnostic_said fields.diagnostic_type fields.diagnostic_text fields.reason).kind;
  reason = take longest_clean fields.reason;
  last_attempt = None;
  retry_until = until;
  extensions = [];
}

-- a notice writes `dns` before each name of a remote system (RFC 3464 section 2.3.5)
abbrev pub is_remote_type : List ℕ → List ℕ → Bool
is_remote_type kind [] = true
is_remote_type kind (byte ∷ name) = str_eq_ignore_ascii_case kind (codes "dns")

-- the first fault of the outcome of a record
abbrev pub first_told_fault : Service → Option ℕ → LoggedFields → Option LetterFault
first_told_fault service until fields =
    if is_remote_type fields.mta_type fields.mta_name
    then option_map of_outcome (first_outcome_fault service (fields_told until fields))
    else Some RemoteType

-- the outcome of valid fields
abbrev pub outcome_with : Service → Fields → ToldOutcome
outcome_with service fields = record {
  service = service;
  recipient = fields.recipient;
  recipient_type = unless_empty fields.recipient_type;
  original = unless_empty fields.original;
  original_type = unless_empty fields.original_type;
  action = unwrap_or (action_of_byte fields.action) Failed;
  status = fields.status;
  mta = unless_empty fields.mta;
  diagnostic = unless_empty (clean_text fields.diagnostic);
  diagnostic_type = unless_empty fields.diagnostic_type;
  reason = unless_empty (clean_text fields.reason);
  last_attempt = fields.last_attempt;
  retry_until = fields.retry_until;
  extensions = fields.extensions;
}

-- the outcome that a notice reports for a record
abbrev pub outcome_told : Service → Option ℕ → LoggedFields → ToldOutcome
outcome_told service until fields = outcome_with service (fields_told until fields)
