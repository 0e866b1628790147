-- The answer to a request: a status, which is 0 if it was carried out, or lack of memory.
use Rattle.std.specs.Prelude.{◌≡◌, ◌==◌, ℕ, Bool, false, List, [], ◌∷◌, Result, Ok, Err}
use Rattle.dsn_text.specs.declared.no_memory.NoMemory.{NoMemory}
use Rattle.dsn_text.specs.declared.service.Service.{Service}
use Rattle.dsn_postfix_notices.specs.declared.requests.deed_fault.DeedFault.{DeedFault}
use Rattle.dsn_postfix_notices.specs.requests.Deed.{Answer, Deed, PassedOn}

-- a request is answered by a status, or memory for it was refused
abbrev pub RequestAnswer : Type 0
RequestAnswer = Result ℕ NoMemory

abbrev pub carried_out : ℕ
carried_out = 0

-- the -1 of bounce(8), as a client reads it
abbrev pub not_carried_out : ℕ
not_carried_out = 4294967295

abbrev pub is_carried_out : RequestAnswer → Bool
is_carried_out (Ok status) = status == carried_out
is_carried_out (Err refused) = false

-- the status of a request that is one deed
abbrev pub status_after : Answer → ℕ
status_after (Ok done) = carried_out
status_after (Err fault) = not_carried_out

-- the status that Postfix's own service answered, or `not_carried_out` if it answered no status
abbrev pub status_passed_on : Result ℕ DeedFault → ℕ
status_passed_on (Ok status) = status
status_passed_on (Err fault) = not_carried_out

-- the request was passed on to Postfix's own service, whose status is its answer
pub record PassesOn (service : Service) (bytes : List ℕ) (answer : RequestAnswer) (gained : List Deed) : Type 0 where
  pub given : Result ℕ DeedFault
  pub passed : gained ≡ PassedOn service bytes given ∷ []
  pub answer_is : answer ≡ Ok (status_passed_on given)
