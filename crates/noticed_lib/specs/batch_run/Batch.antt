-- Batch: what a whole run on one thread is.
use Rattle.std.specs.Prelude.{◌≡◌, ℕ, ◌<◌, Bool, true, false, not, ◌||◌, ◌==◌, List, ◌++◌, length, Option, Some, is_some, is_none, if◌then◌else◌}
use Rattle.std.specs.Io.KnownBytes.{Appends}
use Rattle.std.specs.Option.{option_map_or}
use Rattle.dsn_device.specs.declared.drain.Drain.{Ghosts as Drain}
use Rattle.dsn_device.specs.declared.source.Source.{Ghosts as Source}
use Rattle.dsn_book.specs.declared.open_line.OpenLine.{OpenLine}
use Rattle.dsn_frame.specs.Session.{Input, IsSession}
use Rattle.dsn_device.specs.Failures.{counted}
use Rattle.dsn_text.specs.FaultCode.{notes_write_code, read_failed_code}
use Rattle.dsn_outcome.specs.History.{Limits, history_of, sealed_letters}
use Rattle.dsn_outcome.specs.Request.{Body}
use Rattle.dsn_notes.specs.OpenLogs.{AreOpenLines}
use Rattle.dsn_notes.specs.Notes.{answer_line, answer_lines_from, end_lines}
use Rattle.dsn_report.specs.Outgoing.{StaysSteady, IsOutbox}
use Rattle.dsn_report.specs.Site.{Site}
use Rattle.noticed_lib.specs.batch_run.Requests.{AreReplies, requests_of}
use Rattle.dsn_frame.specs.SentAnswers.{LosesLast}
use Rattle.noticed_lib.specs.declared.batch_run.batch_end.BatchEnd.{BatchEnd}
use Rattle.dsn_frame.specs.declared.bodies.spoken.Spoken.{Spoken}

-- the exit status
abbrev pub status_of : Option ℕ → Bool → Option (List OpenLine) → ℕ
status_of fault whole logs = if is_some fault || (not whole || is_none logs) then 1 else 0

-- whether something ended with this number
abbrev pub ended_with : ℕ → Option ℕ → Bool
ended_with number end = option_map_or (λ code. code == number) end false

-- known bytes grow by the first text, and then by a part of the second, and not by all of it
pub record AppendsThenPart (old new : Option (List ℕ)) (text ending : List ℕ) : Type 0 where
  pub part : List ℕ
  pub lost : List ℕ
  pub some : 0 < length lost
  pub split : ending ≡ part ++ lost
  pub appended : Appends old new (text ++ part)

-- what the notes gained, by whether the reading ended with a line that could not be written, and
-- whether any line was lost. If no line was lost, they gained all lines. If the line of the end was
-- lost, they gained the lines of all answers and a part of it. If the reading ended so, they gained
-- the lines of all answers except the last, and a part of its line
abbrev pub NotesSent : Bool → Bool → Option (List ℕ) → Option (List ℕ) → List Spoken → List ℕ
    → Type 0
NotesSent false false old new answers ending =
    Appends old new (answer_lines_from 0 answers ++ ending)
NotesSent false true old new answers ending =
    AppendsThenPart old new (answer_lines_from 0 answers) ending
NotesSent true false old new answers ending = ⊥
NotesSent true true old new answers ending = LosesLast answer_line answer_lines_from old new answers

module _ {R W N : Type 0} (input_device : Source R) (outbox_device : Drain W)
    (notes_device : Drain N) where
  -- a run over an input. Its frames, the bodies asked among them and the answers are a session,
  -- which ended with `reading`. The replies are those of the history of the requests that the
  -- bodies make, as agent 0. The outbox has the notices of the letters that this history sealed, or
  -- a prefix of their text after a failure. The notes are the lines of the answers and of the end,
  -- or a part of them after a failure. Each device failed once if the run says that it failed, and
  -- otherwise not
  pub record IsBatch (limits : Limits) (site : Site) (input now : R) (start : W)
      (notes later : N) (end : BatchEnd W) : Type 0 where
    pub frames : List (List ℕ)
    pub bodies : List Body
    pub answers : List Spoken
    pub reading : Option ℕ
    pub session : IsSession Input limits.requests 0 (input_device.remaining input)
        (input_device.remaining now) frames bodies answers reading
    pub read_count : input_device.failures now
        ≡ counted (ended_with read_failed_code reading) (input_device.failures input)
    pub replies : AreReplies limits answers (requests_of bodies)
    pub outbox : IsOutbox outbox_device site start end.outbox end.whole end.unsent
        (sealed_letters (history_of limits (requests_of bodies)))
    pub logs : Option (List OpenLine)
    pub logs_are : AreOpenLines (history_of limits (requests_of bodies)) logs
    pub lost : Bool
    pub notes_sent : NotesSent (ended_with notes_write_code reading) lost (notes_device.contents notes)
        (notes_device.contents later) answers (end_lines reading end.whole end.unsent logs)
    pub notes_count : notes_device.failures later ≡ counted lost (notes_device.failures notes)
    pub notes_steady : StaysSteady notes_device notes later
    pub fault_is : end.fault ≡ (if lost then Some notes_write_code else reading)
    pub status_is : end.status ≡ status_of end.fault end.whole logs
