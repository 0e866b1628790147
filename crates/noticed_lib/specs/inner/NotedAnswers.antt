-- Noted answers: what the notes have of the lines of answers.
use Rattle.std.specs.Prelude.{◌≡◌, Bool, List}
use Rattle.dsn_device.specs.Failures.{counted}
use Rattle.dsn_device.specs.declared.drain.Drain.{Ghosts as Drain}
use Rattle.dsn_frame.specs.SentAnswers.{AnswersSent}
use Rattle.dsn_frame.specs.declared.bodies.spoken.Spoken.{Spoken}
use Rattle.dsn_report.specs.Outgoing.{StaysSteady}
use Rattle.dsn_notes.specs.Notes.{answer_line, answer_lines_from}

-- the lines of answers were written, by whether one was lost
pub record AnswersNoted {N : Type 0} (drain : Drain N) (lost : Bool) (old new : N)
    (answers : List Spoken) : Type 0 where
  pub sent : AnswersSent answer_line answer_lines_from lost (drain.contents old)
      (drain.contents new) answers
  pub count : drain.failures new ≡ counted lost (drain.failures old)
  pub steady : StaysSteady drain old new
