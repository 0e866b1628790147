-- What a request for notices reads: the log that it reports, and the message's file.
use Rattle.std.specs.Prelude.{◌≡◌, ℕ, true, List, Option, Result, is_err, Ok, Err}
use Rattle.dsn_postfix_notices.specs.declared.requests.deed_fault.DeedFault.{DeedFault}
use Rattle.dsn_postfix_notices.specs.requests.Deed.{Deed}
use Rattle.dsn_postfix_notices.specs.requests.MailFound.{tells_of_log, log_reading, MailRead, readings, FailsToRead}
use Rattle.dsn_postfix_notices.specs.requests.Task.{Task}

-- the result of reading the log, if there is one to read
abbrev pub ReadsLog : Task → Result (Option (List ℕ)) DeedFault → List Deed → Type 0
ReadsLog task answer gained =
    (gained ≡ log_reading (tells_of_log task.request) task.terms.service task.notice answer)
    × (is_err answer ≡ true → tells_of_log task.request ≡ true)

abbrev pub Reads : Task → Result MailRead DeedFault → List Deed → Type 0
Reads task (Ok found) gained = gained ≡ readings task found
Reads task (Err fault) gained = FailsToRead task gained
