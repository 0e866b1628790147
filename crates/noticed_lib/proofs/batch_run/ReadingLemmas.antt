-- Readings: how a reading begins, and goes on with one more frame.
use Rattle.std.proofs.Common.{◌≡◌, ℕ, Bool, false, true, List, [], ◌∷◌, ◌++◌, length, refl, ap, ◌∙◌}
use Rattle.std.specs.Prelude.{Option, Some, None, Result, Ok, Err, OnOk, OnErr, is_err, is_ok}
use Rattle.std.specs.Io.KnownBytes.{Appends}
use Rattle.std.proofs.KnownBytes.{Appends-nil}
use Rattle.dsn_device.specs.declared.drain.Drain.{Ghosts as Drain}
use Rattle.dsn_device.specs.declared.source.Source.{Ghosts as Source}
use Rattle.dsn_device.specs.Failures.{counted}
use Rattle.dsn_device.specs.Transfer.{AppendsPart}
use Rattle.dsn_device.proofs.CountsLemmas.{counts-none}
use Rattle.dsn_outcome.specs.Request.{Body}
use Rattle.dsn_frame.specs.ServeFault.{is_read_failed, is_unwritten, session_end, turn_fault}
use Rattle.dsn_frame.specs.Session.{Input, IsSession}
use Rattle.dsn_frame.specs.declared.serve_fault.ServeFault.{ServeFault}
use Rattle.dsn_frame.specs.declared.serve_fault.ServeFault.TheVariants.{Frame, WriteBack, Number, Frames, Lost}
use Rattle.dsn_frame.specs.declared.frame_fault.FrameFault.TheVariants as faults
use Rattle.noticed_lib.specs.batch_run.Batch.{ended_with}
use Rattle.dsn_frame.specs.declared.bodies.spoken.Spoken.{Spoken}
use Rattle.dsn_frame.specs.declared.session.Turn.{Turn}
use Rattle.dsn_frame.proofs.SentAnswersLemmas.{sent-more, sent-lost}
use Rattle.dsn_frame.proofs.SessionRunLemmas.{turn_not_read}
use Rattle.dsn_report.specs.Outgoing.{StaysSteady}
use Rattle.dsn_notes.proofs.NotesLemmas.{answer_lines_from-more}
use Rattle.noticed_lib.proofs.batch_run.RunLemmas.{replies-none}
use Rattle.noticed_lib.proofs.batch_run.SteadyLemmas.{steady-none, steady-then}
use Rattle.dsn_notes.specs.Notes.{answer_line, answer_lines_from}
use Rattle.noticed_lib.specs.inner.Reading.{HasRead, Heard}
use Rattle.noticed_lib.specs.inner.Run.{Answered}
use Rattle.noticed_lib.specs.inner.NotedAnswers.{AnswersNoted}
use Rattle.noticed_lib.specs.declared.batch_run.run.Run.{Run}

-- ---- the numbers of ends

-- a reading ended with 33 where a line of the notes was lost, and with 14 where the reader failed
pub lost-code : (fault : Option ServeFault) → ended_with 33 (session_end Input fault) ≡ is_unwritten fault
lost-code None = refl
lost-code (Some (Frame faults.NoMemory)) = refl
lost-code (Some (Frame faults.TooLong)) = refl
lost-code (Some (Frame faults.Empty)) = refl
lost-code (Some (Frame faults.CutShort)) = refl
lost-code (Some (Frame faults.Read)) = refl
lost-code (Some WriteBack) = refl
lost-code (Some Number) = refl
lost-code (Some Frames) = refl
lost-code (Some Lost) = refl

pub read-code : (fault : Option ServeFault) → ended_with 14 (session_end Input fault) ≡ is_read_failed fault
read-code None = refl
read-code (Some (Frame faults.NoMemory)) = refl
read-code (Some (Frame faults.TooLong)) = refl
read-code (Some (Frame faults.Empty)) = refl
read-code (Some (Frame faults.CutShort)) = refl
read-code (Some (Frame faults.Read)) = refl
read-code (Some WriteBack) = refl
read-code (Some Number) = refl
read-code (Some Frames) = refl
read-code (Some Lost) = refl

-- ---- the lines of answers

module _ {N : Type 0} (notes_device : Drain N) (notes later last : N) (answers : List Spoken) (count : ℕ) (answer : Spoken) (counted_so : length answers ≡ count) (before : AnswersNoted notes_device false notes later answers) (steady : StaysSteady notes_device later last) where
  lines-before : Appends (notes_device.contents notes) (notes_device.contents later) (answer_lines_from 0 answers)
  lines-before = before.sent

  -- one line more
  lines-more : Appends (notes_device.contents later) (notes_device.contents last) (answer_line count answer) → notes_device.failures last ≡ notes_device.failures later → AnswersNoted notes_device false notes last (answers ++ answer ∷ [])
  lines-more one good =
      record {
        sent = sent-more answer_line answer_lines_from (notes_device.contents notes) (notes_device.contents later) (notes_device.contents last) answers answer count counted_so lines-before (answer_lines_from-more 0 answers answer) one;
        count = good ∙ before.count;
        steady = steady-then notes_device notes later last before.steady steady;
      }

  -- a line that could not be written
  lines-lost : AppendsPart (notes_device.contents later) (notes_device.contents last) (answer_line count answer) → notes_device.failures last ≡ counted true (notes_device.failures later) → AnswersNoted notes_device true notes last (answers ++ answer ∷ [])
  lines-lost part failed = record {
    sent = sent-lost answer_line answer_lines_from (notes_device.contents notes) (notes_device.contents later) (notes_device.contents last) answers answer count counted_so lines-before part;
    count = failed ∙ ap (counted true) before.count;
    steady = steady-then notes_device notes later last before.steady steady;
  }

  -- one line more, or one that could not be written
  noted-turn : {T E : Type 0} (sent : Result T E) (over : Bool) → OnOk sent (Appends (notes_device.contents later) (notes_device.contents last) (answer_line count answer))
      → OnErr sent (AppendsPart (notes_device.contents later) (notes_device.contents last) (answer_line count answer)) → notes_device.failures last ≡ counted (is_err sent) (notes_device.failures later)
      → AnswersNoted notes_device (is_unwritten (turn_fault (is_ok sent) over)) notes last (answers ++ answer ∷ [])
  noted-turn (Ok value) false all part good = lines-more all good
  noted-turn (Ok value) true all part good = lines-more all good
  noted-turn (Err fault) over all part failed = lines-lost part failed

module _ {R W N : Type 0} (input_device : Source R) (outbox_device : Drain W) (notes_device : Drain N) where
  -- nothing was read so far
  pub read-none : (input : R) (run : Run W) (notes : N) → HasRead input_device outbox_device notes_device input input run run notes notes [] [] false false
  unfolding answer_lines_from
  read-none input run notes = record {
    counts = counts-none input_device.failures input_device.flushes input_device.steady input;
    noted = record { sent = Appends-nil (notes_device.contents notes); count = refl; steady = steady-none notes_device notes };
    stands = λ limits site start stands. record { replies = replies-none limits; stands = stands };
  }

  module _ (input now : R) (run new : Run W) (notes later : N) (bodies : List Body) (answers : List Spoken) (left : HasRead input_device outbox_device notes_device input now run new notes later bodies answers false false) where
    -- a frame was answered, and its line written or not
    pub read-turn : {T E : Type 0} (next : Run W) (last : N) (position : ℕ) (bytes : List ℕ) (turn : Turn) (answered : Answered outbox_device new next position bytes turn) (sent : Result T E)
        → length answers ≡ position → OnOk sent (Appends (notes_device.contents later) (notes_device.contents last) (answer_line position turn.answer))
        → OnErr sent (AppendsPart (notes_device.contents later) (notes_device.contents last) (answer_line position turn.answer)) → notes_device.failures last ≡ counted (is_err sent) (notes_device.failures later)
        → StaysSteady notes_device later last
        → HasRead input_device outbox_device notes_device input now run next notes last (bodies ++ answered.asked) (answers ++ turn.answer ∷ []) (is_read_failed (turn_fault (is_ok sent) turn.over)) (is_unwritten (turn_fault (is_ok sent) turn.over))
    read-turn next last position bytes turn answered sent many all part count steady = record {
      counts = rw (turn_not_read (is_ok sent) turn.over) left.counts;
      noted = noted-turn notes_device notes later last answers position turn.answer many left.noted steady sent turn.over all part count;
      stands = λ limits site start stands. answered.then limits site start bodies answers (left.stands limits site start stands);
    }

  -- a whole input was read, and its values are those that the session left
  pub heard-all : (input now after : R) (run new then : Run W) (notes later last : N) (frames : List (List ℕ)) (bodies : List Body) (answers : List Spoken) (fault : Option ServeFault) (end : Option ℕ)
      → after ≡ now → then ≡ new → last ≡ later → end ≡ session_end Input fault → run.accepted ≡ 0
      → IsSession Input run.book.limits.requests run.accepted (input_device.remaining input) (input_device.remaining now) frames bodies answers (session_end Input fault)
      → HasRead input_device outbox_device notes_device input now run new notes later bodies answers (is_read_failed fault) (is_unwritten fault)
      → Heard input_device outbox_device notes_device input after run then notes last end
  heard-all input now after run new then notes later last frames bodies answers fault end input_is run_is notes_is end_is unused session read = record {
    frames = frames;
    bodies = bodies;
    answers = answers;
    session = rw (input_is, end_is, ← unused) session;
    read = rw (input_is, run_is, notes_is, end_is, lost-code fault, read-code fault) read;
  }
