-- Harvests: what the parts of a whole run hand to one another.
use Rattle.std.specs.Prelude.{◌≡◌, ℕ, Bool, List, Option, Some, if◌then◌else◌}
use Rattle.dsn_device.specs.declared.drain.Drain.{Ghosts as Drain}
use Rattle.dsn_device.specs.declared.source.Source.{Ghosts as Source}
use Rattle.dsn_book.specs.declared.open_line.OpenLine.{OpenLine}
use Rattle.dsn_frame.specs.Session.{Input, IsSession}
use Rattle.dsn_device.specs.Failures.{counted}
use Rattle.dsn_device.specs.UntilFailure.{WritesUntilFailure}
use Rattle.dsn_text.specs.FaultCode.{notes_write_code, read_failed_code}
use Rattle.dsn_outcome.specs.History.{Limits, history_of, sealed_letters}
use Rattle.dsn_outcome.specs.Letter.{Letter}
use Rattle.dsn_outcome.specs.Request.{Body}
use Rattle.noticed_lib.specs.batch_run.Batch.{ended_with, status_of}
use Rattle.dsn_notes.specs.OpenLogs.{AreOpenLines}
use Rattle.dsn_notes.specs.Notes.{end_lines}
use Rattle.dsn_report.specs.Outgoing.{Delivered, IsOutbox, Outgoing}
use Rattle.dsn_report.specs.Site.{Site}
use Rattle.noticed_lib.specs.batch_run.Requests.{AreReplies, requests_of}
use Rattle.noticed_lib.specs.inner.NotedAnswers.{AnswersNoted}
use Rattle.noticed_lib.specs.declared.batch_run.batch_end.BatchEnd.{BatchEnd}
use Rattle.dsn_frame.specs.declared.bodies.spoken.Spoken.{Spoken}

module _ {R W N : Type 0} (input_device : Source R) (outbox_device : Drain W)
    (notes_device : Drain N) where
  -- the result of the reading
  pub record Harvested (limits : Limits) (site : Site) (start : W) (input now : R)
      (notes later : N) (end : Option ℕ) (outgoing : Outgoing W)
      (logs : Option (List OpenLine)) : Type 0 where
    pub frames : List (List ℕ)
    pub bodies : List Body
    pub answers : List Spoken
    pub session : IsSession Input limits.requests 0 (input_device.remaining input)
        (input_device.remaining now) frames bodies answers end
    pub replies : AreReplies limits answers (requests_of bodies)
    pub delivered : Delivered outbox_device site start outgoing
        (sealed_letters (history_of limits (requests_of bodies)))
    pub logs_are : AreOpenLines (history_of limits (requests_of bodies)) logs
    pub noted : AnswersNoted notes_device (ended_with notes_write_code end) notes later answers
    pub read_count : input_device.failures now
        ≡ counted (ended_with read_failed_code end) (input_device.failures input)

-- how a run ended, after the reading
pub record Ended {W N : Type 0} (outbox_device : Drain W) (notes_device : Drain N) (site : Site)
    (start : W) (letters : List Letter) (reading : Option ℕ) (logs : Option (List OpenLine))
    (notes later : N) (end : BatchEnd W) : Type 0 where
  pub outbox : IsOutbox outbox_device site start end.outbox end.whole end.unsent letters
  pub lost : Bool
  pub noted : WritesUntilFailure notes_device (ended_with notes_write_code reading) lost notes later
      (end_lines reading end.whole end.unsent logs)
  pub fault_is : end.fault ≡ (if lost then Some notes_write_code else reading)
  pub status_is : end.status ≡ status_of end.fault end.whole logs
