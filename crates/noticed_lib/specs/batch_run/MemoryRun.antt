-- Runs over memory: what the bytes of an input put into an outbox and notes that are both empty
-- before. It is a run over devices that expose their bytes.
use Rattle.std.specs.Prelude.{◌≡◌, ℕ, Bool, false, List, [], Some, None}
use Rattle.dsn_device.specs.declared.drain.Drain.{Ghosts as Drain}
use Rattle.dsn_device.specs.declared.source.Source.{Ghosts as Source}
use Rattle.dsn_outcome.specs.History.{Limits}
use Rattle.noticed_lib.specs.batch_run.Batch.{IsBatch}
use Rattle.noticed_lib.specs.declared.batch_run.batch_end.BatchEnd.{BatchEnd}
use Rattle.noticed_lib.specs.declared.batch_run.memory_run.MemoryRun.{MemoryRun}
use Rattle.dsn_report.specs.Site.{Site}

-- bytes in memory that are read: no read of them fails
abbrev pub memory_source : Source (List ℕ)
memory_source =
    record {
      remaining = λ bytes. Some bytes;
      holds = λ bytes. None;
      flushes = λ bytes. 0;
      unflushed = λ bytes. false;
      failures = λ bytes. 0;
      steady = λ bytes. Unit {0};
    }

-- bytes in memory that are written. `failures` is how many of the calls that wrote them failed,
-- `flushes` how often they were flushed. `unflushed` says whether bytes were taken since the last
-- flush. No flush fails
pub record Memory : Type 0 where
  pub bytes : List ℕ
  pub failures : ℕ
  pub flushes : ℕ
  pub unflushed : Bool

abbrev pub memory_drain : Drain Memory
memory_drain = record {
  contents = λ memory. Some memory.bytes;
  left = λ memory. None;
  failures = λ memory. memory.failures;
  flushes = λ memory. memory.flushes;
  unflushed = λ memory. memory.unflushed;
  marked = λ memory. None;
  moment = λ memory. 0;
  left_since = λ memory t left. ⊥;
  say = λ left count. ⊥;
  steady = λ memory. ⊥;
  flushes_surely = λ memory. Unit {0};
}

abbrev pub no_bytes : Memory
no_bytes = record { bytes = []; failures = 0; flushes = 0; unflushed = false }

-- how a run over memory ended, as a run
abbrev pub end_in_memory : MemoryRun → Memory → BatchEnd Memory
end_in_memory end outbox =
    record {
      outbox = outbox;
      whole = end.whole;
      fault = end.fault;
      unsent = end.unsent;
      status = end.status;
    }

-- the bytes of the input, from what they were to what was left unread, are run into an outbox and
-- notes, whose bytes are these
pub record IsMemoryRun (limits : Limits) (site : Site) (input : List ℕ) (end : MemoryRun) : Type 0 where
  pub unread : List ℕ
  pub outbox : Memory
  pub outbox_is : outbox.bytes ≡ end.outbox.items
  pub notes : Memory
  pub notes_is : notes.bytes ≡ end.notes.items
  pub run : IsBatch memory_source memory_drain memory_drain limits site input unread no_bytes
      no_bytes notes (end_in_memory end outbox)
