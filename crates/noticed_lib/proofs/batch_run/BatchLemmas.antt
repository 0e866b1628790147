-- Batch: the parts of a run put together.
use Rattle.std.proofs.Common.{◌≡◌, ℕ, Bool, true, false, List, [], ◌++◌, refl, ap, ◌∙◌, rules}
use Rattle.std.specs.Prelude.{Option, Some}
use Rattle.std.specs.List.Sorted.{IsSortedByKey}
use Rattle.std.proofs.KnownBytes.{Appends-nil, Appends-trans, Appends-kept}
use Rattle.std.proofs.lemmas.List.Sorted.{IsPermutation-refl}
use Rattle.dsn_text.specs.Key.{key_cmp}
use Rattle.dsn_book.specs.OpenLine.{open_lines_after}
use Rattle.dsn_book.specs.declared.open_line.OpenLine.{OpenLine}
use Rattle.dsn_device.specs.Failures.{counted}
use Rattle.dsn_device.specs.declared.drain.Drain.{Ghosts as Drain}
use Rattle.dsn_device.specs.declared.source.Source.{Ghosts as Source}
use Rattle.dsn_frame.specs.declared.bodies.spoken.Spoken.{Spoken}
use Rattle.dsn_frame.proofs.SessionLemmas.{session_no_memory}
use Rattle.dsn_outcome.specs.History.{Limits, held_after, history_after, history_of, sealed_letters}
use Rattle.dsn_device.specs.UntilFailure.{Sent, counts_failure}
use Rattle.dsn_report.specs.Outgoing.{Outgoing, Delivered}
use Rattle.dsn_report.specs.Site.{Site}
use Rattle.noticed_lib.proofs.batch_run.RunLemmas.{letters-none, replies-none}
use Rattle.noticed_lib.proofs.batch_run.SteadyLemmas.{steady-none, steady-then}
use Rattle.noticed_lib.specs.batch_run.Batch.{ended_with, NotesSent, IsBatch}
use Rattle.noticed_lib.specs.inner.Harvest.{Harvested, Ended}
use Rattle.noticed_lib.specs.inner.Reading.{Heard}
use Rattle.noticed_lib.specs.inner.Run.{RunStands}
use Rattle.dsn_notes.specs.OpenLogs.{AreOpenLines}
use Rattle.noticed_lib.specs.declared.batch_run.run.Run.{Run}
use Rattle.dsn_notes.specs.Notes.{answer_line, answer_lines_from}
use Rattle.noticed_lib.specs.batch_run.Requests.{batch_requests_from, requests_of}
use Rattle.dsn_frame.specs.SentAnswers.{AnswersSent}
use Rattle.noticed_lib.specs.declared.batch_run.batch_end.BatchEnd.{BatchEnd}

sorted-none : IsSortedByKey (λ (line : OpenLine). line.key) key_cmp []
sorted-none = search rules

lines-none : (limits : Limits) → open_lines_after (history_of limits []) ≡ []
unfolding history_after held_after
lines-none limits = refl

-- ---- the notes

-- the lines of the answers, and then those of the end
notes-sent : (stopped lost : Bool) (x y z : Option (List ℕ)) (answers : List Spoken) (ending : List ℕ) → AnswersSent answer_line answer_lines_from stopped x y answers → Sent stopped lost y z ending → NotesSent stopped lost x z answers ending
notes-sent false false x y z answers ending noted ended = Appends-trans x y z (answer_lines_from 0 answers) ending noted ended
notes-sent false true x y z answers ending noted ended = record {
  part = ended.front;
  lost = ended.unsent;
  some = ended.some;
  split = ended.split;
  appended = Appends-trans x y z (answer_lines_from 0 answers) ended.front noted ended.appended;
}
notes-sent true false x y z answers ending noted ended = absurd ended
notes-sent true true x y z answers ending noted ended = record {
  before = noted.before;
  last = noted.last;
  answers_are = noted.answers_are;
  part = noted.part;
  lost = noted.lost;
  some = noted.some;
  text_is = noted.text_is;
  appended = Appends-kept x y z (answer_lines_from 0 noted.before ++ noted.part) noted.appended ended;
}

notes-count : (stopped lost : Bool) (y z : Option (List ℕ)) (ending : List ℕ) (l m n : ℕ) → Sent stopped lost y z ending → m ≡ counted stopped l → n ≡ counts_failure stopped lost m → n ≡ counted lost l
notes-count false lost y z ending l m n ended e f = f ∙ ap (counted lost) e
notes-count true false y z ending l m n ended e f = absurd ended
notes-count true true y z ending l m n ended e f = f ∙ e

module _ {R W N : Type 0} (input_device : Source R) (outbox_device : Drain W) (notes_device : Drain N) (limits : Limits) (site : Site) (start : W) where
  -- a run that found no memory for its logs read nothing
  pub harvest-nothing : (input : R) (notes : N) (outgoing : Outgoing W) (lines : List OpenLine) → lines ≡ [] → Delivered outbox_device site start outgoing []
      → Harvested input_device outbox_device notes_device limits site start input input notes notes (Some 9) outgoing (Some lines)
  unfolding answer_lines_from batch_requests_from
  harvest-nothing input notes outgoing lines empty delivered = record {
    frames = [];
    bodies = [];
    answers = [];
    session = session_no_memory limits.requests 0 (input_device.remaining input);
    replies = replies-none limits;
    delivered = rw (letters-none limits) delivered;
    logs_are = rw (lines-none limits, empty) (IsPermutation-refl [], sorted-none);
    noted = record { sent = Appends-nil (notes_device.contents notes); count = refl; steady = steady-none notes_device notes };
    read_count = refl;
  }

  -- what was read, and the logs that are open then
  pub harvest-read : (input now : R) (run new : Run W) (notes later : N) (end : Option ℕ) (logs : Option (List OpenLine)) → run.book.limits ≡ limits
      → (heard : Heard input_device outbox_device notes_device input now run new notes later end) (stands : RunStands outbox_device limits site start new heard.bodies heard.answers)
      → AreOpenLines (history_of limits (requests_of heard.bodies)) logs → Harvested input_device outbox_device notes_device limits site start input now notes later end new.outgoing logs
  harvest-read input now run new notes later end logs kept heard stands listed = record {
    frames = heard.frames;
    bodies = heard.bodies;
    answers = heard.answers;
    session = rw (← kept) heard.session;
    replies = stands.replies;
    delivered = stands.stands.letters;
    logs_are = listed;
    noted = heard.read.noted;
    read_count = heard.read.counts.count;
  }

module _ {R W N : Type 0} (input_device : Source R) (outbox_device : Drain W) (notes_device : Drain N) (limits : Limits) (site : Site) (input now : R) (start : W) (notes middle later : N) (reading : Option ℕ) (outgoing : Outgoing W) (logs : Option (List OpenLine)) (end : BatchEnd W) where
  -- what was read and how it ended are the whole run
  pub whole-batch : (harvest : Harvested input_device outbox_device notes_device limits site start input now notes middle reading outgoing logs)
      → Ended outbox_device notes_device site start (sealed_letters (history_of limits (requests_of harvest.bodies))) reading logs middle later end
      → IsBatch input_device outbox_device notes_device limits site input now start notes later end
  whole-batch harvest ended = record {
    frames = harvest.frames;
    bodies = harvest.bodies;
    answers = harvest.answers;
    reading = reading;
    session = harvest.session;
    read_count = harvest.read_count;
    replies = harvest.replies;
    outbox = ended.outbox;
    logs = logs;
    logs_are = harvest.logs_are;
    lost = ended.lost;
    notes_sent = notes-sent (ended_with 33 reading) ended.lost (notes_device.contents notes) (notes_device.contents middle) (notes_device.contents later) harvest.answers _ harvest.noted.sent ended.noted.sent;
    notes_count = notes-count (ended_with 33 reading) ended.lost (notes_device.contents middle) (notes_device.contents later) _ (notes_device.failures notes) (notes_device.failures middle) (notes_device.failures later) ended.noted.sent harvest.noted.count ended.noted.count;
    notes_steady = steady-then notes_device notes middle later harvest.noted.steady ended.noted.stays_steady;
    fault_is = ended.fault_is;
    status_is = ended.status_is;
  }
