-- Runs over memory: a run over devices that expose their bytes is one over these bytes.
use Rattle.std.proofs.Common.{◌≡◌, ℕ, Bool, List, [], ◌∷◌, refl, subst, arith}
use Rattle.std.specs.Prelude.{Option, None, Some}
use Rattle.std.specs.Io.KnownBytes.{Appends}
use Rattle.dsn_device.specs.declared.drain.Drain.{Ghosts as Drain}
use Rattle.dsn_device.specs.declared.source.Source.{Ghosts as Source}
use Rattle.dsn_frame.specs.declared.bodies.spoken.Spoken.{Spoken}
use Rattle.dsn_outcome.specs.History.{Limits}
use Rattle.dsn_outcome.specs.Letter.{Letter}
use Rattle.dsn_report.specs.Outgoing.{FailedIn, MarksAllOf, in_text, at_flush, at_mark, marked_with}
use Rattle.dsn_report.specs.Site.{Site}
use Rattle.noticed_lib.specs.batch_run.Batch.{NotesSent, IsBatch}
use Rattle.noticed_lib.specs.batch_run.MemoryRun.{Memory, memory_source, memory_drain, no_bytes}
use Rattle.noticed_lib.specs.declared.batch_run.batch_end.BatchEnd.{BatchEnd}

-- what holds of known bytes holds of them under another name
appends-known : (old new : Option (List ℕ)) (x y text : List ℕ) → old ≡ Some x → new ≡ Some y → Appends old new text → Appends (Some x) (Some y) text
appends-known old new x y text old_is new_is appended =
    subst (λ (known : Option (List ℕ)). Appends known (Some y) text) old_is (subst (λ (known : Option (List ℕ)). Appends old known text) new_is appended)

sent-known : (stopped lost : Bool) (old new : Option (List ℕ)) (x y : List ℕ) (answers : List Spoken) (ending : List ℕ) → old ≡ Some x → new ≡ Some y → NotesSent stopped lost old new answers ending → NotesSent stopped lost (Some x) (Some y) answers ending
sent-known stopped lost old new x y answers ending old_is new_is sent =
    subst (λ (known : Option (List ℕ)). NotesSent stopped lost known (Some y) answers ending) old_is (subst (λ (known : Option (List ℕ)). NotesSent stopped lost old known answers ending) new_is sent)

-- a device that marks no letters marks none of these
none_marked : (letters : List Letter) → None ≡ marked_with letters None
none_marked [] = refl
none_marked (first ∷ rest) = none_marked rest

-- a crash leaves nothing of memory
none_left : (start end : Memory) (letters : List Letter) → MarksAllOf memory_drain start end letters
none_left start end letters = (λ begun. record { later = omega arith; each = λ left since. absurd since; before = λ t left le since. absurd since }, λ begun left since. absurd since)

-- a drain that exposes its bytes, as memory
abbrev pub memory_of : {W : Type 0} → Drain W → List ℕ → W → Memory
memory_of drain bytes device = record { bytes = bytes; failures = drain.failures device; flushes = drain.flushes device; unflushed = drain.unflushed device }

-- a drain in memory to which nothing was written
pub record IsUnwritten {W : Type 0} (drain : Drain W) (device : W) : Type 0 where
  pub contents : drain.contents device ≡ Some []
  pub failures : drain.failures device ≡ 0
  pub flushes : drain.flushes device ≡ 0
  pub surely : drain.flushes_surely device

module _ {R W N : Type 0} (source : Source R) (outbox_drain : Drain W) (notes_drain : Drain N) (limits : Limits) (site : Site) (input now : R) (start : W) (notes later : N) (end : BatchEnd W) (bytes unread outbox_bytes notes_bytes : List ℕ) where
  failed-known : (posted with_next : List Letter) (text : List ℕ) → IsUnwritten outbox_drain start → outbox_drain.contents end.outbox ≡ Some outbox_bytes → FailedIn outbox_drain start end.outbox posted with_next text → FailedIn memory_drain no_bytes (memory_of outbox_drain outbox_bytes end.outbox) posted with_next text
  failed-known posted with_next text unwritten end_is (in_text part flushes marks) = in_text (rw (unwritten.contents, end_is) at part) (rw unwritten.flushes at flushes) (none_left _ _ posted)
  failed-known posted with_next text unwritten end_is (at_flush whole flushes unsure marks) = absurd (unsure unwritten.surely)
  failed-known posted with_next text unwritten end_is (at_mark whole flushes passed_on some unsure marks) = absurd (unsure unwritten.surely)

  pub in-memory : source.remaining input ≡ Some bytes → source.remaining now ≡ Some unread → source.failures input ≡ 0 → source.failures now ≡ 0
      → IsUnwritten outbox_drain start → outbox_drain.contents end.outbox ≡ Some outbox_bytes → IsUnwritten notes_drain notes → notes_drain.contents later ≡ Some notes_bytes
      → IsBatch source outbox_drain notes_drain limits site input now start notes later end
      → IsBatch memory_source memory_drain memory_drain limits site bytes unread no_bytes no_bytes (memory_of notes_drain notes_bytes later)
      (record { outbox = memory_of outbox_drain outbox_bytes end.outbox; whole = end.whole; fault = end.fault; unsent = end.unsent; status = end.status })
  in-memory input_is now_is input_count now_count unwritten end_is no_notes later_is batch = record {
    frames = batch.frames;
    bodies = batch.bodies;
    answers = batch.answers;
    reading = batch.reading;
    session = rw (input_is, now_is) at batch.session;
    read_count = rw (input_count, now_count) at batch.read_count;
    replies = batch.replies;
    outbox = record {
      posted = batch.outbox.posted;
      split = batch.outbox.split;
      written = rw (unwritten.contents, end_is) at batch.outbox.written;
      all_written = λ whole. appends-known _ _ [] outbox_bytes _ unwritten.contents end_is (batch.outbox.all_written whole);
      none_unsent = batch.outbox.none_unsent;
      count = rw unwritten.failures at batch.outbox.count;
      flushes = λ whole. rw unwritten.flushes at (batch.outbox.flushes whole);
      passed_on = batch.outbox.passed_on;
      marked = none_marked batch.outbox.posted;
      marks = λ whole. none_left _ _ _;
      lost = λ part. failed-known _ _ _ unwritten end_is (batch.outbox.lost part);
      short = λ part surely. rw (unwritten.contents, end_is) at (batch.outbox.short part unwritten.surely);
      steady = λ never. absurd never;
    };
    logs = batch.logs;
    logs_are = batch.logs_are;
    lost = batch.lost;
    notes_sent = sent-known _ batch.lost _ _ [] notes_bytes batch.answers _ no_notes.contents later_is batch.notes_sent;
    notes_count = rw no_notes.failures at batch.notes_count;
    notes_steady = λ never. absurd never;
    fault_is = batch.fault_is;
    status_is = batch.status_is;
  }
