-- What is done for a request to log the outcome of a recipient.
use Rattle.std.specs.Prelude.{◌≡◌, ℕ, List, [], ◌∷◌, None, Some, Ok, Err}
use Rattle.dsn_text.specs.declared.service.Service.{Service}
use Rattle.dsn_postfix.specs.LoggedAppend.{logged_as, unlogged_field}
use Rattle.dsn_postfix.specs.declared.postfix_request.AppendRequest.{AppendRequest}
use Rattle.dsn_postfix_files.specs.LogRecord.{logged_bytes}
use Rattle.dsn_postfix_files.specs.declared.log_field.LogField.{LogField}
use Rattle.dsn_postfix_notices.specs.requests.Deed.{Answer, Appended, Deed}
use Rattle.dsn_postfix_notices.specs.requests.RequestStatus.{PassesOn, RequestAnswer, status_after}

-- the bytes of an append's record
abbrev pub record_bytes : Service → AppendRequest → List ℕ
record_bytes service request = logged_bytes (logged_as service request)

-- the record is added to the end of the log; one that no line can express is left to Postfix's own service
pub data IsLogged (service : Service) (request : AppendRequest) (bytes : List ℕ) (status : ℕ) (gained : List Deed) : Type 0 where
  tried : unlogged_field service request ≡ None
      → (given : Answer) → gained ≡ Appended service request.queue_id (record_bytes service request) given ∷ []
      → status ≡ status_after given → IsLogged service request bytes status gained
  unsayable : (field : LogField) → unlogged_field service request ≡ Some field
      → PassesOn service bytes (Ok status) gained → IsLogged service request bytes status gained

-- A status is answered after one deed, whatever its result. If memory was refused, there is no deed, and a line can
-- express the record: passing a request on takes no memory.
abbrev pub IsAppended : Service → AppendRequest → List ℕ → RequestAnswer → List Deed → Type 0
IsAppended service request bytes (Ok status) gained = IsLogged service request bytes status gained
IsAppended service request bytes (Err refused) gained = (unlogged_field service request ≡ None) × (gained ≡ [])
