-- A request that is passed on to one of Postfix's own services.
use Rattle.std.specs.Prelude.{◌≡◌, ◌≢◌, ℕ, List, Result, Ok, Err}
use Rattle.dsn_device.specs.declared.drain.Drain
use Rattle.dsn_device.specs.declared.source.Source
use Rattle.dsn_postfix.specs.PostfixAnswer.{announcement_bytes, status_at, status_bytes}
use Rattle.dsn_postfix.specs.declared.list_fault.ListFault.{ListFault}
use Rattle.dsn_postfix.specs.declared.list_fault.ListFault.TheVariants as list_fault
use Rattle.dsn_postfix.specs.declared.request_fault.RequestFault.{RequestFault}
use Rattle.dsn_postfix.specs.ListDialogue.{HearsList, HearsNoList}
use Rattle.dsn_smtp.specs.Dialogue.{FailsToSay, Says}
use Rattle.dsn_postfix_notices.specs.declared.requests.deed_fault.DeedFault.{DeedFault}
use Rattle.dsn_postfix_notices.specs.declared.requests.deed_fault.DeedFault.TheVariants.{Failed, NoMemory}

-- the fault of a deed that couldn't receive a list
abbrev pub deed_fault_of : ListFault → DeedFault
deed_fault_of list_fault.NoMemory = NoMemory
deed_fault_of fault = Failed

-- no list was received, or another list than the announcement
pub data HearsNoAnnouncement {S : Type 0} (source : Source.Ghosts S) (old new : S) (why : DeedFault) : Type 0 where
  none : (fault : ListFault) → why ≡ deed_fault_of fault → HearsNoList source old new fault
      → HearsNoAnnouncement source old new why
  other : (list : List ℕ) → why ≡ Failed → HearsList source old new list → list ≢ announcement_bytes
      → HearsNoAnnouncement source old new why

-- no list was received, or a list that is not a valid status
pub data HearsNoStatus {S : Type 0} (source : Source.Ghosts S) (old new : S) (why : DeedFault) : Type 0 where
  none : (fault : ListFault) → why ≡ deed_fault_of fault → HearsNoList source old new fault
      → HearsNoStatus source old new why
  other : (list : List ℕ) (fault : RequestFault) → why ≡ Failed → HearsList source old new list
      → status_at list ≡ Err fault → HearsNoStatus source old new why

-- the request is sent once, only after the announcement, and the answer is the status that was received after it
pub data AsksOwnService {S : Type 0} (source : Source.Ghosts S) (drain : Drain.Ghosts S) (old new : S) (request : List ℕ)
    (answer : Result ℕ DeedFault) : Type 0 where
  answered : (announced asked : S) (status : ℕ) → answer ≡ Ok status → HearsList source old announced announcement_bytes
      → Says drain announced asked request → HearsList source asked new (status_bytes status)
      → AsksOwnService source drain old new request answer
  unannounced : (why : DeedFault) → answer ≡ Err why → HearsNoAnnouncement source old new why
      → AsksOwnService source drain old new request answer
  unasked : (announced : S) → answer ≡ Err Failed → HearsList source old announced announcement_bytes
      → FailsToSay drain announced new request → AsksOwnService source drain old new request answer
  unanswered : (announced asked : S) (why : DeedFault) → answer ≡ Err why
      → HearsList source old announced announcement_bytes → Says drain announced asked request
      → HearsNoStatus source asked new why → AsksOwnService source drain old new request answer
