-- What is done for one request of Postfix's programs, in which order, and how it is answered.
use Rattle.std.specs.Prelude.{◌≡◌, ◌&&◌, not, ℕ, Bool, List, [], ◌∷◌, ◌++◌, MatchBool}
use Rattle.dsn_text.specs.declared.service.Service.{Service}
use Rattle.dsn_postfix.specs.RequestFlags.{asks_clean}
use Rattle.dsn_postfix.specs.declared.postfix_request.NoticeRequest.{NoticeRequest}
use Rattle.dsn_postfix.specs.declared.postfix_request.PostfixRequest.{PostfixRequest}
use Rattle.dsn_postfix.specs.declared.postfix_request.PostfixRequest.TheVariants.{Append, Flush, Warn, Verp, One, Trace}
use Rattle.dsn_postfix_notices.specs.requests.AppendDeeds.{IsAppended}
use Rattle.dsn_postfix_notices.specs.requests.Deed.{Answer, Deed, LogRemoved}
use Rattle.dsn_postfix_notices.specs.requests.NoticeDeeds.{IsNotified}
use Rattle.dsn_postfix_notices.specs.requests.RequestStatus.{RequestAnswer, is_carried_out}
use Rattle.dsn_postfix_notices.specs.requests.Task.{Task, Terms}

abbrev pub queue_id_of : PostfixRequest → List ℕ
queue_id_of (Append append) = append.queue_id
queue_id_of (Flush notice) = notice.queue_id
queue_id_of (Warn notice) = notice.queue_id
queue_id_of (Verp notice delimiters) = notice.queue_id
queue_id_of (One notice recipient report) = notice.queue_id
queue_id_of (Trace notice) = notice.queue_id

abbrev pub task_of : Terms → PostfixRequest → NoticeRequest → Task
task_of terms request notice = record { terms = terms; request = request; notice = notice }

-- what is done to carry it out, except for CLEAN
abbrev pub IsDone : Terms → PostfixRequest → List ℕ → RequestAnswer → List Deed → Type 0
IsDone terms (Append append) bytes answer gained = IsAppended terms.service append bytes answer gained
IsDone terms (Flush notice) bytes answer gained = IsNotified (task_of terms (Flush notice) notice) bytes answer gained
IsDone terms (Warn notice) bytes answer gained = IsNotified (task_of terms (Warn notice) notice) bytes answer gained
IsDone terms (Verp notice delimiters) bytes answer gained = IsNotified (task_of terms (Verp notice delimiters) notice) bytes answer gained
IsDone terms (One notice recipient report) bytes answer gained = IsNotified (task_of terms (One notice recipient report) notice) bytes answer gained
IsDone terms (Trace notice) bytes answer gained = IsNotified (task_of terms (Trace notice) notice) bytes answer gained

-- a request with CLEAN has its log removed unless the answer is status 0, whatever the failure
abbrev pub must_clean : PostfixRequest → RequestAnswer → Bool
must_clean request answer = asks_clean request && not (is_carried_out answer)

pub record RemovesOnce (service : Service) (request : PostfixRequest) (gained : List Deed) : Type 0 where
  pub given : Answer
  pub removed : gained ≡ LogRemoved service (queue_id_of request) given ∷ []

abbrev pub Cleans : Service → PostfixRequest → Bool → List Deed → Type 0
Cleans service request due gained = MatchBool due (RemovesOnce service request gained) (gained ≡ [])

-- exactly these deeds were done for a request, in this order, and this answers it
pub record IsCarriedOut (terms : Terms) (request : PostfixRequest) (bytes : List ℕ) (answer : RequestAnswer)
    (gained : List Deed) : Type 0 where
  pub done : List Deed
  pub cleaned : List Deed
  pub gained_are : gained ≡ done ++ cleaned
  pub is_done : IsDone terms request bytes answer done
  pub clean : Cleans terms.service request (must_clean request answer) cleaned
