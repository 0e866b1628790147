-- What all notices of one request have in common: the mail system that they come from, and the header fields in front
-- of each.
use Rattle.std.specs.Prelude.{◌≡◌, ℕ, Bool, true, false, List, [], ◌∷◌, ◌++◌, ◌&&◌, not, Option, Some, None, codes, length, nat_le}
use Rattle.std.specs.List.{list_all}
use Rattle.dsn_text.specs.Text.{is_printable}
use Rattle.dsn_outcome.specs.Letter.{Letter}
use Rattle.dsn_report.specs.Data.{message_lines}
use Rattle.dsn_report.specs.Lines.{begins_with_dot, longest_line, pieces_of_text, text_of_lines}
use Rattle.dsn_report.specs.Notice.{notice_of}
use Rattle.dsn_report.specs.Outbox.{mail_data}
use Rattle.dsn_report.specs.Site.{Site}
use Rattle.dsn_postfix.specs.RequestFlags.{is_tls_optional}
use Rattle.dsn_postfix_files.specs.QueueListing.{QueueEnding, RecordsFrom}
use Rattle.dsn_postfix_files.specs.QueueRecord.{PlacedBytes}
use Rattle.dsn_postfix_files.specs.QueueWalk.{first_place}
use Rattle.dsn_postfix_notices.specs.requests.MailFound.{MailRead}
use Rattle.dsn_postfix_notices.specs.requests.RequestLetters.{AreLettersAsked}
use Rattle.dsn_postfix_notices.specs.requests.Task.{Task}
use Rattle.dsn_postfix_notices.specs.requests.ThreadId.{thread_id}

pub record Heading : Type 0 where
  pub site : Site
  pub front : List ℕ

-- ---- the fields in front

-- `TLS-Required: no` (RFC 8689 section 3): delivery counts more than TLS, for the notice as for its message
abbrev pub tls_lines : Bool → List (List ℕ)
tls_lines true = codes "TLS-Required: no" ∷ []
tls_lines false = []

-- the fields that refer to a message with this id (RFC 5322 section 3.6.4)
abbrev pub thread_lines : Option (List ℕ) → List (List ℕ)
thread_lines None = []
thread_lines (Some id) = (codes "References: " ++ id) ∷ (codes "In-Reply-To: " ++ id) ∷ []

abbrev pub front_lines : Task → List PlacedBytes → List (List ℕ)
front_lines task records =
    thread_lines (thread_id task.terms.settings.threaded records) ++ tls_lines (is_tls_optional task.notice)

abbrev pub front_of : Task → List PlacedBytes → List ℕ
front_of task records = text_of_lines (front_lines task records)

-- a line that SMTP carries as it is: printable, of at most 998 bytes, without a dot in front
abbrev pub is_front_line : List ℕ → Bool
is_front_line line = nat_le (length line) longest_line && (list_all is_printable line && not (begins_with_dot line))

-- what the receiver of mail data gets of them (RFC 5321 section 4.5.2)
abbrev pub received : List ℕ → List ℕ
received bytes = text_of_lines (message_lines (pieces_of_text bytes))

-- ---- the notices of a request

pub record IsHeadingOf (task : Task) (found : MailRead) (heading : Heading) : Type 0 where
  pub site_is : heading.site ≡ task.terms.settings.site
  pub records : List PlacedBytes
  pub ending : QueueEnding
  pub listed : RecordsFrom found.file (first_place found.file) records ending
  pub front_is : heading.front ≡ front_of task records

-- the letters of all notices that a request has, and what is in front of each
pub record AreNoticesAsked (task : Task) (found : MailRead) (heading : Heading) (letters : List Letter) : Type 0 where
  pub headed : IsHeadingOf task found heading
  pub each : AreLettersAsked task found letters

-- the mail data of a notice with the fields in front
abbrev pub submitted_data : Heading → Letter → List ℕ
submitted_data heading letter = heading.front ++ mail_data heading.site letter

-- the receiver of a notice of a request gets the fields in front, and then the notice
abbrev pub ReceivesFront : Site → Letter → Type 0
ReceivesFront site letter =
    (task : Task) (records : List PlacedBytes)
    → received (submitted_data (record { site = site; front = front_of task records }) letter)
    ≡ front_of task records ++ notice_of site letter
