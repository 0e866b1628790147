-- The letters of a request for notices, made of what was read for it, and which recipients are marked as done after
-- them.
use Rattle.std.specs.List.{flat_map, list_any}
use Rattle.std.specs.Option.{is_some, unwrap_or}
use Rattle.std.specs.Prelude.{◌≡◌, ℕ, ◌+◌, ◌*◌, ◌%◌, ◌^◌, nat_lt, Bool, true, false, ◌&&◌, not, List, [], ◌∷◌, length, Option, Some, None, Result, Ok, Err, if◌then◌else◌}
use Rattle.dsn_outcome.specs.Letter.{Letter}
use Rattle.dsn_text.specs.declared.service.Service.{Service}
use Rattle.dsn_text.specs.declared.service.Service.TheVariants.{Bounce, Defer, Trace as TraceLog}
use Rattle.dsn_postfix.specs.NoticePlan.{notices_of}
use Rattle.dsn_postfix.specs.PlannedNotice.{NoticeFacts}
use Rattle.dsn_postfix.specs.RequestFlags.{marks_recipients}
use Rattle.dsn_postfix.specs.declared.cant_say.CantSay.{CantSay}
use Rattle.dsn_postfix.specs.declared.postfix_request.PostfixRequest.{PostfixRequest}
use Rattle.dsn_postfix.specs.declared.postfix_request.PostfixRequest.TheVariants.{Append, Flush, Warn, Verp, One, Trace}
use Rattle.dsn_postfix_files.specs.LogFile.{DamagedLog, LoggedEntry, SaidLog, log_entries}
use Rattle.dsn_postfix_files.specs.MessageFacts.{said_of_message}
use Rattle.dsn_postfix_files.specs.MessageText.{message_text}
use Rattle.dsn_postfix_files.specs.QueueListing.{QueueEnding, RecordsFrom}
use Rattle.dsn_postfix_files.specs.QueueRecipients.{recipients_of}
use Rattle.dsn_postfix_files.specs.QueueRecord.{PlacedBytes}
use Rattle.dsn_postfix_files.specs.QueueWalk.{first_place}
use Rattle.dsn_postfix_notices.specs.letters.NoticeLetter.{IsLetterOf, first_letter_fault}
use Rattle.dsn_postfix_notices.specs.letters.ReportedMessage.{MessageSaid}
use Rattle.dsn_postfix_notices.specs.requests.MailFound.{MailRead, tells_of_log}
use Rattle.dsn_postfix_notices.specs.requests.Task.{Task}

-- ---- what notices say of the message

-- The file gives the arrival, the sender and the text. The request gives the envelope id, and the sender if the file
-- doesn't.
abbrev pub message_said : Task → List PlacedBytes → MessageSaid
message_said task records = record {
  queue_id = task.notice.queue_id;
  arrival = (said_of_message records).arrival;
  sender = unwrap_or (said_of_message records).sender task.notice.sender;
  envelope_id = task.notice.envelope_id;
  text = message_text records;
  lifetime = task.terms.settings.lifetime;
  size_limit = task.terms.settings.size_limit;
}

-- ---- serials

-- Letters of a bounce log and of a defer log may be of one kind and about one message. So they have other serials even
-- if the logs are of one length.
abbrev pub serial_of_service : Service → ℕ
serial_of_service Bounce = 0
serial_of_service Defer = 500000
serial_of_service TraceLog = 0

-- The first serial of a log's letters. A log only grows until it is removed, so the same log gives the same serial, and
-- one that has grown gives another.
abbrev pub serial_of_log : Service → List ℕ → ℕ
serial_of_log service log = (length log * 1000000 + serial_of_service service) % 2 ^ 64

-- a request without a log has the serial of its terms
abbrev pub first_serial : Task → Option (List ℕ) → ℕ
first_serial task None = task.terms.serial
first_serial task (Some log) = serial_of_log task.terms.service log

-- ---- letters

-- a letter's serial follows that of the one before it; after 2^64 - 1 comes 0
abbrev pub next_serial : ℕ → ℕ
next_serial serial = (serial + 1) % 2 ^ 64

-- a letter is that of a notice without a fault
pub record IsSaidLetter (message : MessageSaid) (moment serial : ℕ) (notice : NoticeFacts) (letter : Letter) : Type 0 where
  pub arrival : ℕ
  pub sayable : first_letter_fault message notice ≡ None
  pub letter_is : IsLetterOf message notice moment serial arrival letter

-- the letters of notices, one for each, in their order
abbrev pub AreLettersOf : MessageSaid → ℕ → ℕ → List NoticeFacts → List Letter → Type 0
AreLettersOf message moment serial [] letters = letters ≡ []
AreLettersOf message moment serial (notice ∷ notices) [] = ⊥
AreLettersOf message moment serial (notice ∷ notices) (letter ∷ letters) =
    IsSaidLetter message moment serial notice letter × AreLettersOf message moment (next_serial serial) notices letters

-- the letters of all notices that a request has of a log and a message's file
pub record AreLettersAsked (task : Task) (found : MailRead) (letters : List Letter) : Type 0 where
  pub records : List PlacedBytes
  pub ending : QueueEnding
  pub listed : RecordsFrom found.file (first_place found.file) records ending
  pub notices : List NoticeFacts
  pub planned : notices_of task.terms.settings.double_bounce task.terms.service task.request (recipients_of records)
      found.log ≡ Ok notices
  pub each : AreLettersOf (message_said task records) task.terms.moment (first_serial task found.log) notices letters

-- ---- what no letter expresses

abbrev pub has_fault : MessageSaid → NoticeFacts → Bool
has_fault message notice = is_some (first_letter_fault message notice)

-- there is no plan, or no letter can be made of one of its notices
abbrev pub IsUnsaid : MessageSaid → Result (List NoticeFacts) CantSay → Type 0
IsUnsaid message (Ok notices) = list_any (has_fault message) notices ≡ true
IsUnsaid message (Err reason) = Unit {0}

pub record CantBeSaid (task : Task) (found : MailRead) : Type 0 where
  pub records : List PlacedBytes
  pub ending : QueueEnding
  pub listed : RecordsFrom found.file (first_place found.file) records ending
  pub unsaid : IsUnsaid (message_said task records)
      (notices_of task.terms.settings.double_bounce task.terms.service task.request (recipients_of records) found.log)

-- ---- recipients that are done after them

abbrev pub place_if_known : ℕ → List ℕ
place_if_known place = if nat_lt 0 place then place ∷ [] else []

abbrev pub place_of_entry : LoggedEntry → List ℕ
place_of_entry (SaidLog fields) = place_if_known fields.offset
place_of_entry (DamagedLog part) = []

abbrev pub places_in_log : Service → Option (List ℕ) → List ℕ
places_in_log service None = []
places_in_log service (Some log) = flat_map place_of_entry (log_entries service log)

-- the places of the recipients that a request reports: those of its log, or the one that it names
abbrev pub places_named : Service → PostfixRequest → Option (List ℕ) → List ℕ
places_named service (Append append) log = []
places_named service (Flush notice) log = places_in_log service log
places_named service (Warn notice) log = places_in_log service log
places_named service (Verp notice delimiters) log = places_in_log service log
places_named service (One notice recipient report) log = place_if_known recipient.offset
places_named service (Trace notice) log = places_in_log service log

-- Delivery agents mark the recipients of a bounce log as soon as they are logged. Another recipient of an alias may
-- have the same record, and would count as done if it were marked for them.
abbrev pub is_bounce_log : Service → Bool
is_bounce_log Bounce = true
is_bounce_log Defer = false
is_bounce_log TraceLog = false

-- recipients are marked as done if the request asks for that by DELRCPT
abbrev pub marks_done : Task → Bool
marks_done task = marks_recipients task.notice && not (is_bounce_log task.terms.service && tells_of_log task.request)

abbrev pub places_done : Task → Option (List ℕ) → List ℕ
places_done task log = if marks_done task then places_named task.terms.service task.request log else []
