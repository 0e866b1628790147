-- What a request for notices reads: the log that it reports, and the message's file.
use Rattle.std.specs.Prelude.{◌≡◌, ℕ, Bool, true, false, List, [], ◌∷◌, ◌++◌, Option, Result, Ok, Err}
use Rattle.dsn_text.specs.declared.service.Service.{Service}
use Rattle.dsn_postfix.specs.declared.postfix_request.NoticeRequest.{NoticeRequest}
use Rattle.dsn_postfix.specs.declared.postfix_request.PostfixRequest.{PostfixRequest}
use Rattle.dsn_postfix.specs.declared.postfix_request.PostfixRequest.TheVariants.{Append, Flush, Warn, Verp, One, Trace}
use Rattle.dsn_postfix_notices.specs.requests.Deed.{Deed, LogRead, MessageRead}
use Rattle.dsn_postfix_notices.specs.requests.Task.{Task}
use Rattle.dsn_postfix_notices.specs.declared.requests.deed_fault.DeedFault.{DeedFault}

pub record MailRead : Type 0 where
  pub log : Option (List ℕ)
  pub file : List ℕ

-- a request about one recipient alone has no log
abbrev pub tells_of_log : PostfixRequest → Bool
tells_of_log (Append append) = false
tells_of_log (Flush notice) = true
tells_of_log (Warn notice) = true
tells_of_log (Verp notice delimiters) = true
tells_of_log (One notice recipient report) = false
tells_of_log (Trace notice) = true

-- the deeds that read the log, if there is one to read
abbrev pub log_reading : Bool → Service → NoticeRequest → Result (Option (List ℕ)) DeedFault → List Deed
log_reading true service notice answer = LogRead service notice.queue_id answer ∷ []
log_reading false service notice answer = []

abbrev pub message_reading : NoticeRequest → Result (List ℕ) DeedFault → List Deed
message_reading notice answer = MessageRead notice.queue_name notice.queue_id answer ∷ []

-- the deeds that read both
abbrev pub readings : Task → MailRead → List Deed
readings task found =
    log_reading (tells_of_log task.request) task.terms.service task.notice (Ok found.log)
    ++ message_reading task.notice (Ok found.file)

-- the log or the message couldn't be read
pub data FailsToRead (task : Task) (gained : List Deed) : Type 0 where
  log_unread : (fault : DeedFault) → tells_of_log task.request ≡ true
      → gained ≡ log_reading true task.terms.service task.notice (Err fault) → FailsToRead task gained
  message_unread : (log : Option (List ℕ)) (fault : DeedFault)
      → gained ≡ log_reading (tells_of_log task.request) task.terms.service task.notice (Ok log)
      ++ message_reading task.notice (Err fault)
      → FailsToRead task gained
