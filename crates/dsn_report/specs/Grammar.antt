-- The grammar of a delivery status part (RFC 3464 section 2.1), independent of the writer.
use Rattle.std.specs.Prelude.{◌≡◌, ◌≢◌, ℕ, Bool, true, ◌&&◌, List, [], ◌∷◌, ◌++◌, map, All, Option, Some, None, IsTrue, IsSome, IsSomeAnd, IfSome, codes, if◌then◌else◌, nat_eq, option_map}
use Rattle.std.specs.List.{AllZip, list_all, list_any, flat_map}
use lib.Pointwise.{pointwise}
use Rattle.dsn_text.specs.Action.{action_word}
use Rattle.dsn_outcome.specs.Letter.{Letter}
use Rattle.dsn_outcome.specs.Outcome.{Outcome}
use Rattle.dsn_text.specs.Extension.{lines_ended_by_lf, is_extension_name, is_extension_text}
use Rattle.dsn_text.specs.Stamp.{date_text}
use Rattle.dsn_text.specs.Status.{is_status_code}
use Rattle.dsn_text.specs.Text.{is_printable, is_type_name}
use Rattle.dsn_report.specs.Boundary.{boundary_of}
use Rattle.dsn_report.specs.DeliveryStatus.{delivery_status, typed, usual_address_type, usual_diagnostic_type}
use Rattle.dsn_report.specs.Lines.{pieces_of_text}
use Rattle.dsn_report.specs.Multipart.{Multipart, message_body, multipart_of}
use Rattle.dsn_report.specs.Notice.{notice_of}
use Rattle.dsn_report.specs.Site.{Site}

-- a field: a name and a value
pub record Field : Type 0 where
  pub name : List ℕ
  pub value : List ℕ

-- the line of a field: the name, a colon, a space and the value
abbrev pub field_line : Field → List ℕ
field_line field = field.name ++ codes ": " ++ field.value

abbrev pub same_text : List ℕ → List ℕ → Bool
same_text a b = pointwise nat_eq a b

-- the names of a message's fields, in the order of RFC 3464 section 2.2
abbrev pub per_message_names : List (List ℕ)
per_message_names =
    codes "Original-Envelope-Id" ∷ codes "Reporting-MTA" ∷ codes "DSN-Gateway"
    ∷ codes "Received-From-MTA" ∷ codes "Arrival-Date" ∷ []

-- the names of a recipient's fields, in the order of RFC 3464 section 2.3
abbrev pub per_recipient_names : List (List ℕ)
per_recipient_names =
    codes "Original-Recipient" ∷ codes "Final-Recipient" ∷ codes "Action" ∷ codes "Status"
    ∷ codes "Remote-MTA" ∷ codes "Diagnostic-Code" ∷ codes "Last-Attempt-Date" ∷ codes "Final-Log-ID"
    ∷ codes "Will-Retry-Until" ∷ []

-- the fields have some of the names, in order and each at most once, and then extension fields (RFC
-- 3464 section 2.4)
abbrev pub is_choice_of : List (List ℕ) → List Field → Bool
is_choice_of [] [] = true
is_choice_of [] (field ∷ fields) = is_extension_name field.name && is_choice_of [] fields
is_choice_of (name ∷ names) [] = true
is_choice_of (name ∷ names) (field ∷ fields) =
    if same_text name field.name then is_choice_of names fields
    else is_choice_of names (field ∷ fields)

-- the value of the first field with this name
abbrev pub value_of : List ℕ → List Field → Option (List ℕ)
value_of name [] = None
value_of name (field ∷ fields) =
    if same_text name field.name then Some field.value else value_of name fields

-- the extension fields among these fields; their names begin with X- (RFC 3464 section 2.4)
abbrev pub extensions_in : List Field → List Field
extensions_in [] = []
extensions_in (field ∷ fields) =
    if is_extension_name field.name then field ∷ extensions_in fields else extensions_in fields

-- each value is printable, so it is within its line
abbrev pub has_plain_values : List Field → Bool
has_plain_values fields = list_all (λ field. list_all is_printable field.value) fields

-- whether a text is one of the five words of RFC 3464 section 2.3.3
abbrev pub is_action_word : List ℕ → Bool
is_action_word text =
    list_any (same_text text)
    (codes "failed" ∷ codes "delayed" ∷ codes "delivered" ∷ codes "relayed" ∷ codes "expanded"
    ∷ [])

pub record IsMessageGroup (fields : List Field) : Type 0 where
  pub in_order : IsTrue (is_choice_of per_message_names fields)
  pub plain : IsTrue (has_plain_values fields)
  pub reporter : IsSome (value_of (codes "Reporting-MTA") fields)

-- a value begins with its type, an atom, and a semicolon (RFC 3464 sections 2.1.2 and 2.3.6)
pub record HasType (value : List ℕ) : Type 0 where
  pub type_name : List ℕ
  pub text : List ℕ
  pub is_name : IsTrue (is_type_name type_name)
  pub is_laid_out : value ≡ type_name ++ codes "; " ++ text

-- the fields of a recipient; only a delayed recipient has Will-Retry-Until (RFC 3464 section 2.3.9)
pub record IsRecipientGroup (fields : List Field) : Type 0 where
  pub in_order : IsTrue (is_choice_of per_recipient_names fields)
  pub plain : IsTrue (has_plain_values fields)
  pub original : IfSome (value_of (codes "Original-Recipient") fields) HasType
  pub recipient : IsSomeAnd (value_of (codes "Final-Recipient") fields) HasType
  pub diagnostic : IfSome (value_of (codes "Diagnostic-Code") fields) HasType
  pub action : IsSomeAnd (value_of (codes "Action") fields) (λ word. IsTrue (is_action_word word))
  pub status : IsSomeAnd (value_of (codes "Status") fields) (λ code. IsTrue (is_status_code code))
  pub retry_until : IsSome (value_of (codes "Will-Retry-Until") fields)
      → value_of (codes "Action") fields ≡ Some (codes "delayed")

-- the lines are the message's fields, and then an empty line and the fields of each recipient;
-- there is at least one recipient
pub record IsDeliveryStatus (lines : List (List ℕ)) (message : List Field)
    (recipients : List (List Field)) : Type 0 where
  pub laid_out : lines
      ≡ map field_line message ++ flat_map (λ group. [] ∷ map field_line group) recipients
  pub message_group : IsMessageGroup message
  pub some_recipient : recipients ≢ []
  pub recipient_groups : All IsRecipientGroup recipients

-- the group reports the outcome: each field has the outcome's value, or is missing if the outcome
-- has none; the extension fields are the outcome's, unchanged
pub record GivesOutcome (outcome : Outcome) (fields : List Field) : Type 0 where
  pub original : value_of (codes "Original-Recipient") fields
      ≡ option_map (λ text. typed [] usual_address_type outcome.original_type ++ text)
      outcome.original
  pub recipient : value_of (codes "Final-Recipient") fields
      ≡ Some (typed [] usual_address_type outcome.recipient_type ++ outcome.recipient)
  pub action : value_of (codes "Action") fields ≡ Some (action_word outcome.action)
  pub status : value_of (codes "Status") fields ≡ Some outcome.status
  pub mta : value_of (codes "Remote-MTA") fields
      ≡ option_map (λ text. codes "dns; " ++ text) outcome.mta
  pub diagnostic : value_of (codes "Diagnostic-Code") fields
      ≡ option_map (λ text. typed [] usual_diagnostic_type outcome.diagnostic_type ++ text)
      outcome.diagnostic
  pub last_attempt : value_of (codes "Last-Attempt-Date") fields
      ≡ option_map date_text outcome.last_attempt
  pub retry_until : value_of (codes "Will-Retry-Until") fields
      ≡ option_map date_text outcome.retry_until
  pub extensions : map field_line (extensions_in fields) ≡ lines_ended_by_lf outcome.extensions

-- the group reports the message: its envelope id, the reporting host, and when it arrived; the
-- extension fields are the message's, unchanged
pub record GivesMessage (host : List ℕ) (letter : Letter) (fields : List Field) : Type 0 where
  pub envelope_id : value_of (codes "Original-Envelope-Id") fields ≡ letter.draft.envelope_id
  pub reporter : value_of (codes "Reporting-MTA") fields ≡ Some (codes "dns; " ++ host)
  pub arrival : value_of (codes "Arrival-Date") fields ≡ Some (date_text letter.draft.arrival)
  pub extensions : map field_line (extensions_in fields) ≡ lines_ended_by_lf letter.draft.extensions

-- the second of these texts, if there are two
abbrev pub second_of : List (List ℕ) → Option (List ℕ)
second_of [] = None
second_of (first ∷ []) = None
second_of (first ∷ second ∷ rest) = Some second

-- the delivery status that a mail program finds in a report: the pieces of its second part's body
-- (RFC 6522 section 3); the last piece is the text after the last CRLF
abbrev pub delivery_status_in : Multipart → Option (List (List ℕ))
delivery_status_in report =
    option_map (λ part. message_body (pieces_of_text part)) (second_of report.parts)

-- the second part in a notice's bytes is lines, each with its CRLF, that obey the grammar, with one
-- group for each outcome, in log order
pub record ReportsOutcomes (site : Site) (letter : Letter) : Type 0 where
  pub found : delivery_status_in (multipart_of (boundary_of letter) (notice_of site letter))
      ≡ Some (delivery_status site.host letter ++ [] ∷ [])
  pub message : List Field
  pub recipients : List (List Field)
  pub grammar : IsDeliveryStatus (delivery_status site.host letter) message recipients
  pub gives_message : GivesMessage site.host letter message
  pub gives_outcomes : AllZip GivesOutcome letter.outcomes recipients

-- a report without outcomes is not a delivery status, however its lines are read
abbrev pub EmptyLogLaw : Type 0
EmptyLogLaw =
    (host : List ℕ) (letter : Letter) (message : List Field) (recipients : List (List Field))
    → letter.outcomes ≡ [] → IsTrue (is_extension_text letter.draft.extensions)
    → IsDeliveryStatus (delivery_status host letter) message recipients → ⊥
