-- What is done once all notices of a request are accepted: its recipients are marked as done, and then its log is
-- removed.
use Rattle.std.specs.Option.{is_some}
use Rattle.std.specs.Prelude.{◌≡◌, ℕ, Bool, true, false, ◌&&◌, List, [], ◌∷◌, ◌++◌, map, Option, Result, Ok, Err}
use Rattle.dsn_text.specs.declared.service.Service.{Service}
use Rattle.dsn_postfix.specs.declared.postfix_request.NoticeRequest.{NoticeRequest}
use Rattle.dsn_postfix.specs.declared.postfix_request.PostfixRequest.{PostfixRequest}
use Rattle.dsn_postfix.specs.declared.postfix_request.PostfixRequest.TheVariants.{Append, Flush, Warn, Verp, One, Trace}
use Rattle.dsn_postfix_notices.specs.requests.Deed.{Deed, LogRemoved, MarkedDone}
use Rattle.dsn_postfix_notices.specs.requests.Task.{Task}
use Rattle.dsn_postfix_notices.specs.declared.requests.deed_fault.DeedFault.{DeedFault}
use Rattle.dsn_postfix_notices.specs.declared.requests.untold.Untold.{Untold}
use Rattle.dsn_postfix_notices.specs.declared.requests.untold.Untold.TheVariants.{Failed}

-- ---- recipients

abbrev pub marking : NoticeRequest → ℕ → Deed
marking notice place = MarkedDone notice.queue_name notice.queue_id place (Ok tt)

-- all places were marked, in their order
abbrev pub AreMarked : NoticeRequest → List ℕ → List Deed → Type 0
AreMarked notice places gained = gained ≡ map (marking notice) places

-- one place couldn't be marked
pub record FailsToMark (notice : NoticeRequest) (place : ℕ) (gained : List Deed) : Type 0 where
  pub fault : DeedFault
  pub tried : gained ≡ MarkedDone notice.queue_name notice.queue_id place (Err fault) ∷ []

-- the places before one were marked, this place couldn't be, and nothing was done after it
pub record StopsAtPlace (notice : NoticeRequest) (places : List ℕ) (gained : List Deed) : Type 0 where
  pub before : List ℕ
  pub stopped : ℕ
  pub after : List ℕ
  pub places_are : places ≡ before ++ stopped ∷ after
  pub marks : List Deed
  pub last : List Deed
  pub gained_are : gained ≡ marks ++ last
  pub marked : AreMarked notice before marks
  pub unmarked : FailsToMark notice stopped last

-- ---- the log

-- a warning keeps its log, for the notice of failure that may follow; a request about one recipient alone has no log
abbrev pub removes_log : PostfixRequest → Bool
removes_log (Append append) = false
removes_log (Flush notice) = true
removes_log (Warn notice) = false
removes_log (Verp notice delimiters) = true
removes_log (One notice recipient report) = false
removes_log (Trace notice) = true

abbrev pub is_removal_due : PostfixRequest → Option (List ℕ) → Bool
is_removal_due request log = removes_log request && is_some log

-- a log that is due for removal is removed
pub data RemovesLog (service : Service) (id : List ℕ) (due : Bool) (telling : Result (Unit {0}) Untold) (gained : List Deed) : Type 0 where
  kept : due ≡ false → telling ≡ Ok tt → gained ≡ [] → RemovesLog service id due telling gained
  removed : due ≡ true → telling ≡ Ok tt → gained ≡ LogRemoved service id (Ok tt) ∷ [] → RemovesLog service id due telling gained
  unremoved : (fault : DeedFault) → due ≡ true → telling ≡ Err Failed → gained ≡ LogRemoved service id (Err fault) ∷ []
      → RemovesLog service id due telling gained

-- ---- both

-- recipients are marked; once all of them are, the log is removed if that is due
pub data FinishesAt (task : Task) (log : Option (List ℕ)) (places : List ℕ) (telling : Result (Unit {0}) Untold)
    (gained : List Deed) : Type 0 where
  unmarked : telling ≡ Err Failed → StopsAtPlace task.notice places gained → FinishesAt task log places telling gained
  marked : (marks removal : List Deed) → gained ≡ marks ++ removal → AreMarked task.notice places marks
      → RemovesLog task.terms.service task.notice.queue_id (is_removal_due task.request log) telling removal
      → FinishesAt task log places telling gained
