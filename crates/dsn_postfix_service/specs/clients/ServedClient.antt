-- One of Postfix's programs is answered: what its list asks is done, and it receives the status.
use Rattle.std.specs.Prelude.{◌≡◌, ◌⊎◌, ℕ, List, Option, Result, Ok, Err}
use Rattle.dsn_device.specs.declared.drain.Drain
use Rattle.dsn_text.specs.declared.service.Service.{Service}
use Rattle.dsn_postfix.specs.PostfixAnswer.{status_bytes}
use Rattle.dsn_postfix.specs.PostfixRequest.{IsRequestIn}
use Rattle.dsn_postfix.specs.RequestReading.{postfix_request_at}
use Rattle.dsn_postfix.specs.declared.postfix_request.PostfixRequest.{PostfixRequest}
use Rattle.dsn_postfix.specs.declared.request_fault.RequestFault.{RequestFault}
use Rattle.dsn_smtp.specs.Dialogue.{FailsToSay, Says}
use Rattle.dsn_postfix_notices.specs.requests.AnsweredRequest.{IsAnswered}
use Rattle.dsn_postfix_notices.specs.requests.Deed.{Deed}
use Rattle.dsn_postfix_notices.specs.requests.Gains.{Gains}
use Rattle.dsn_postfix_notices.specs.requests.RequestStatus.{PassesOn, RequestAnswer, not_carried_out}
use Rattle.dsn_postfix_notices.specs.requests.Task.{SettingsSaid, Terms}
use Rattle.dsn_postfix_service.specs.declared.clients.client_fault.ClientFault.{ClientFault}
use Rattle.dsn_postfix_service.specs.declared.clients.client_fault.ClientFault.TheVariants.{NoMoment, Unsaid}

-- a program receives only a status, so refused memory has one too
abbrev pub status_said : RequestAnswer → ℕ
status_said (Ok status) = status
status_said (Err refused) = not_carried_out

-- what a list asks is done: a request is answered, and any other list is passed on to Postfix's own service
pub data DoesAsked (terms : Terms) (list : List ℕ) (answer : RequestAnswer) (gained : List Deed) : Type 0 where
  request : (asked : PostfixRequest) → IsRequestIn list asked
      → IsAnswered terms asked list answer gained
      → DoesAsked terms list answer gained
  other : (fault : RequestFault) → postfix_request_at list ≡ Err fault → PassesOn terms.service list answer gained
      → DoesAsked terms list answer gained

-- what a list asks was done, at some moment, and this is the status that answers it
pub record IsDoneFor {M : Type 0} (deeds : M → Option (List Deed)) (settings : SettingsSaid) (service : Service)
    (list : List ℕ) (serial : ℕ) (before after : M) (status : ℕ) : Type 0 where
  pub moment : ℕ
  pub answer : RequestAnswer
  pub does : Gains deeds before after (DoesAsked (record { settings = settings; service = service; moment = moment; serial = serial }) list answer)
  pub status_is : status ≡ status_said answer

-- a status couldn't be sent
abbrev pub SaysNoStatus : {S : Type 0} → Drain.Ghosts S → S → S → ℕ → Type 0
SaysNoStatus drain old new status = (new ≡ old) ⊎ FailsToSay drain old new (status_bytes status)

-- a status was sent, or couldn't be
abbrev pub SaysStatus : {S : Type 0} → Drain.Ghosts S → S → S → ℕ → Result ℕ ClientFault → Type 0
SaysStatus drain old new status (Ok said) = (said ≡ status) × Says drain old new (status_bytes status)
SaysStatus drain old new status (Err fault) = (fault ≡ Unsaid status) × SaysNoStatus drain old new status

-- how answering the client of this list ends: its status was sent, or wasn't
pub data AnswersClient {S M : Type 0} (drain : Drain.Ghosts S) (deeds : M → Option (List Deed)) (settings : SettingsSaid)
    (service : Service) (serial : ℕ) (list : List ℕ) (old new : S) (before after : M)
    (end : Result ℕ ClientFault) : Type 0 where
  no_moment : end ≡ Err NoMoment → new ≡ old → deeds after ≡ deeds before
      → AnswersClient drain deeds settings service serial list old new before after end
  done : (status : ℕ) → IsDoneFor deeds settings service list serial before after status
      → SaysStatus drain old new status end
      → AnswersClient drain deeds settings service serial list old new before after end
