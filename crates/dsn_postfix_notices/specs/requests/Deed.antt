-- What a request does or tries outside of the service: each deed with its result.
use Rattle.std.specs.Prelude.{ℕ, Bool, List, Option, Result, Ok, Err}
use Rattle.dsn_text.specs.declared.service.Service.{Service}
use Rattle.dsn_smtp.specs.declared.hand_in_fault.HandInFault.{HandInFault}
use Rattle.dsn_postfix_notices.specs.declared.requests.deed_fault.DeedFault.{DeedFault}

-- the result of a deed that returns no value
abbrev pub Answer : Type 0
Answer = Result (Unit {0}) DeedFault

-- A log is named by its service and its message's queue id; a message's file by its queue and that id. `LogSought`: the
-- system was asked whether a service has a log that isn't empty. `LogRead`: a log was read, with its bytes or `None` if
-- there is no log. `Appended`: a record was added to the end of a log and synced; after a failure the log has nothing
-- of it. `LogRemoved`: the log was removed. `MessageRead`: the message's file was read. `HandedIn`: a notice was
-- submitted for a path, with these mail data, and accepted with a reply. `MarkedDone`: the recipient whose record is at
-- a place of the message's file was marked as done. `PassedOn`: the request's bytes were passed on to Postfix's own
-- service of that name, which answered a status. `LogReleased`: the log that was still locked was released.
pub data Deed : Type 0 where
  LogSought : Service → List ℕ → Result Bool DeedFault → Deed
  LogRead : Service → List ℕ → Result (Option (List ℕ)) DeedFault → Deed
  Appended : Service → List ℕ → List ℕ → Answer → Deed
  LogRemoved : Service → List ℕ → Answer → Deed
  MessageRead : List ℕ → List ℕ → Result (List ℕ) DeedFault → Deed
  HandedIn : List ℕ → List ℕ → Result (List ℕ) HandInFault → Deed
  MarkedDone : List ℕ → List ℕ → ℕ → Answer → Deed
  PassedOn : Service → List ℕ → Result ℕ DeedFault → Deed
  LogReleased : Deed

-- a result, with the model of the program's value
abbrev pub answer_as : {T U : Type 0} → (T → U) → Result T DeedFault → Result U DeedFault
answer_as stands_for (Ok value) = Ok (stands_for value)
answer_as stands_for (Err fault) = Err fault

-- the result of a submission, with the reply that accepted it
abbrev pub reply_as : Result (Unit {0}) HandInFault → List ℕ → Result (List ℕ) HandInFault
reply_as (Ok done) reply = Ok reply
reply_as (Err fault) reply = Err fault
