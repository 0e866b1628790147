-- The machine-readable part of a notice (RFC 3464 section 2).
use Rattle.std.specs.Prelude.{ℕ, List, [], ◌∷◌, ◌++◌, Option, Some, None, codes, option_map, unwrap_or}
use Rattle.std.specs.List.{flat_map}
use Rattle.dsn_text.specs.Action.{action_word}
use Rattle.dsn_outcome.specs.Letter.{Letter}
use Rattle.dsn_outcome.specs.Outcome.{Outcome}
use Rattle.dsn_text.specs.Extension.{lines_ended_by_lf}
use Rattle.dsn_text.specs.Stamp.{date_text}

-- the line of a value that may be missing: its name and the value
unfoldable pub line_if_any : List ℕ → Option (List ℕ) → List (List ℕ)
line_if_any name None = []
line_if_any name (Some value) = (name ++ value) ∷ []

-- the usual types of a recipient and of a diagnostic, used if no type is given (RFC 3464 sections
-- 2.3.2 and 2.3.6): an address of Internet mail, and an SMTP reply
abbrev pub usual_address_type : List ℕ
usual_address_type = codes "rfc822"

abbrev pub usual_diagnostic_type : List ℕ
usual_diagnostic_type = codes "smtp"

-- the text before a typed value: the field's name, the type, a semicolon and a space
abbrev pub typed : List ℕ → List ℕ → Option (List ℕ) → List ℕ
typed name usual kind = name ++ unwrap_or kind usual ++ codes "; "

-- the fields of the message (RFC 3464 section 2.2), with its extension fields last (section 2.4)
unfoldable pub per_message_fields : List ℕ → Letter → List (List ℕ)
per_message_fields host letter =
    line_if_any (codes "Original-Envelope-Id: ") letter.draft.envelope_id
    ++ (codes "Reporting-MTA: dns; " ++ host)
    ∷ (codes "Arrival-Date: " ++ date_text letter.draft.arrival)
    ∷ lines_ended_by_lf letter.draft.extensions

-- the fields of one recipient (RFC 3464 section 2.3), with its extension fields last (section 2.4)
unfoldable pub per_recipient_fields : Outcome → List (List ℕ)
per_recipient_fields outcome =
    line_if_any (typed (codes "Original-Recipient: ") usual_address_type outcome.original_type)
    outcome.original
    ++ (typed (codes "Final-Recipient: ") usual_address_type outcome.recipient_type
    ++ outcome.recipient)
    ∷ (codes "Action: " ++ action_word outcome.action)
    ∷ (codes "Status: " ++ outcome.status)
    ∷ []
    ++ line_if_any (codes "Remote-MTA: dns; ") outcome.mta
    ++ line_if_any
    (typed (codes "Diagnostic-Code: ") usual_diagnostic_type outcome.diagnostic_type)
    outcome.diagnostic
    ++ line_if_any (codes "Last-Attempt-Date: ") (option_map date_text outcome.last_attempt)
    ++ line_if_any (codes "Will-Retry-Until: ") (option_map date_text outcome.retry_until)
    ++ lines_ended_by_lf outcome.extensions

-- the group of one recipient: an empty line, then its fields (RFC 3464 section 2.1)
abbrev pub recipient_group : Outcome → List (List ℕ)
recipient_group outcome = [] ∷ per_recipient_fields outcome

-- the fields of the message, then a group for each outcome, in log order (RFC 3464 section 2.1)
unfoldable pub delivery_status : List ℕ → Letter → List (List ℕ)
delivery_status host letter =
    per_message_fields host letter ++ flat_map recipient_group letter.outcomes
