-- The messages that the receiver of a mail transaction, or of a whole session, gets from its bytes
-- (RFC 5321 section 4.5.2).
use Rattle.std.specs.Prelude.{◌≡◌, ℕ, Bool, true, false, List, [], ◌∷◌, ◌++◌, map, Option, Some, None, drop, codes, if◌then◌else◌, nat_eq}
use Rattle.dsn_outcome.specs.Letter.{Letter}
use lib.Pointwise.{pointwise}
use Rattle.dsn_report.specs.Lines.{begins_with_dot, pieces_of_text, text_of_lines}
use Rattle.dsn_report.specs.Notice.{notice_of}
use Rattle.dsn_report.specs.Outbox.{mail_data, mail_transaction, outbox_of}
use Rattle.dsn_report.specs.Site.{Site}

-- whether a line begins the data
abbrev pub begins_data : List ℕ → Bool
begins_data line = pointwise nat_eq line (codes "DATA")

-- whether a line ends the data
abbrev pub ends_data : List ℕ → Bool
ends_data line = pointwise nat_eq line (codes ".")

-- a line without the dot that was added to it
abbrev pub without_dot : List ℕ → List ℕ
without_dot line = if begins_with_dot line then drop 1 line else line

-- the lines of the message: those before the line that ends the data, without the added dots
unfoldable pub message_lines : List (List ℕ) → List (List ℕ)
message_lines [] = []
message_lines (line ∷ rest) = if ends_data line then [] else without_dot line ∷ message_lines rest

-- the lines after the command DATA
unfoldable pub data_after : List (List ℕ) → List (List ℕ)
data_after [] = []
data_after (line ∷ rest) = if begins_data line then rest else data_after rest

-- the message that the receiver gets, each of its lines ended by CRLF
unfoldable pub message_of : List ℕ → List ℕ
message_of transaction = text_of_lines (message_lines (data_after (pieces_of_text transaction)))

-- the receiver of a letter's mail transaction gets the notice
abbrev pub ReceivesNotice : Site → Letter → Type 0
ReceivesNotice site letter = message_of (mail_transaction site letter) ≡ notice_of site letter

-- the receiver of a letter's mail data gets the notice
abbrev pub ReceivesData : Site → Letter → Type 0
ReceivesData site letter =
    text_of_lines (message_lines (pieces_of_text (mail_data site letter))) ≡ notice_of site letter

-- the messages in the lines of a session, given the lines of the unfinished message, if there is
-- one; DATA begins a message, and the line that ends the data ends it; a message without that line
-- is not received (RFC 5321 section 4.1.1.4)
unfoldable pub messages_in : Option (List (List ℕ)) → List (List ℕ) → List (List (List ℕ))
messages_in under_way [] = []
messages_in None (line ∷ rest) = elim (begins_data line) [
  | true ↦ messages_in (Some []) rest
  | false ↦ messages_in None rest
]
messages_in (Some message) (line ∷ rest) = elim (ends_data line) [
  | true ↦ message ∷ messages_in None rest
  | false ↦ messages_in (Some (message ++ without_dot line ∷ [])) rest
]

-- the messages that the receiver of a whole session gets, each of their lines ended by CRLF
unfoldable pub messages_of : List ℕ → List (List ℕ)
messages_of session = map text_of_lines (messages_in None (pieces_of_text session))

-- the receiver of an outbox gets the notice of each letter, in order, and nothing else
abbrev pub ReceivesNotices : Site → List Letter → Type 0
ReceivesNotices site letters = messages_of (outbox_of site letters) ≡ map (notice_of site) letters
