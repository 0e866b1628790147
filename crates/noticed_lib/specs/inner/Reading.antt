-- Readings: the result of reading an input, of its run, and of the notes.
use Rattle.std.specs.Prelude.{List, [], Bool, Option, ℕ}
use Rattle.dsn_device.specs.Counts.{Counts}
use Rattle.dsn_device.specs.declared.drain.Drain.{Ghosts as Drain}
use Rattle.dsn_device.specs.declared.source.Source.{Ghosts as Source}
use Rattle.dsn_outcome.specs.History.{Limits}
use Rattle.dsn_outcome.specs.Request.{Body}
use Rattle.dsn_text.specs.FaultCode.{notes_write_code, read_failed_code}
use Rattle.dsn_frame.specs.Session.{Input, IsSession}
use Rattle.dsn_frame.specs.declared.bodies.spoken.Spoken.{Spoken}
use Rattle.noticed_lib.specs.batch_run.Batch.{ended_with}
use Rattle.noticed_lib.specs.batch_run.Requests.{requests_of}
use Rattle.noticed_lib.specs.inner.NotedAnswers.{AnswersNoted}
use Rattle.noticed_lib.specs.inner.Run.{Stands, RunStands}
use Rattle.noticed_lib.specs.declared.batch_run.run.Run.{Run}
use Rattle.dsn_report.specs.Site.{Site}

-- these bodies were asked of a run, and these answers noted, by whether a read failed, and whether
-- the last line was lost
pub record HasRead {R W N : Type 0} (input_device : Source R) (outbox_device : Drain W)
    (notes_device : Drain N) (input now : R) (run new : Run W) (notes later : N)
    (bodies : List Body) (answers : List Spoken) (failed lost : Bool) : Type 0 where
  pub counts : Counts input_device.failures input_device.flushes input_device.steady failed input now
  pub noted : AnswersNoted notes_device lost notes later answers
  pub stands : (limits : Limits) (site : Site) (start : W)
      → Stands outbox_device limits site start run (requests_of [])
      → RunStands outbox_device limits site start new bodies answers

-- a whole input was read: its frames are a session, which ended with this number, if it didn't end
-- well
pub record Heard {R W N : Type 0} (input_device : Source R) (outbox_device : Drain W)
    (notes_device : Drain N) (input now : R) (run new : Run W) (notes later : N)
    (end : Option ℕ) : Type 0 where
  pub frames : List (List ℕ)
  pub bodies : List Body
  pub answers : List Spoken
  pub session : IsSession Input run.book.limits.requests 0 (input_device.remaining input)
      (input_device.remaining now) frames bodies answers end
  pub read : HasRead input_device outbox_device notes_device input now run new notes later bodies
      answers (ended_with read_failed_code end) (ended_with notes_write_code end)
