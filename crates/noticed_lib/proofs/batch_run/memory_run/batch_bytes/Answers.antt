use Rattle.std.proofs.Common.{refl}
use Rattle.noticed_lib.proofs.batch_run.MemoryLemmas.{in-memory}
use Rattle.noticed_lib.proofs.batch_run.memory_run.batch_bytes.Goals as goal

pub returns : goal.returns
returns c =
    let out = c.batch-end.result.outbox in
    let noted = c.batch-end.new.notes in record {
      unread = c.batch-end.new.input.rest.now;
      outbox = record { bytes = out.bytes; failures = out.failures; flushes = out.flushes; unflushed = out.unflushed };
      outbox_is = rw c.into_bytes.ensures refl;
      notes = record { bytes = noted.bytes; failures = noted.failures; flushes = noted.flushes; unflushed = noted.unflushed };
      notes_is = rw c.into_bytes-2.ensures refl;
      run =
          in-memory _ _ _ c.args.limits.now c.args.site _ _ _ _ _ c.batch-end.result c.args.input.now c.batch-end.new.input.rest.now out.bytes noted.bytes
          refl refl refl refl
          (record { contents = rw (c.new-outbox.ensures, c.new-2.ensures.items) refl; failures = rw c.new-outbox.ensures refl; flushes = rw c.new-outbox.ensures refl; surely = tt }) refl
          (record { contents = rw (c.new-notes.ensures, c.new.ensures.items) refl; failures = rw c.new-notes.ensures refl; flushes = rw c.new-notes.ensures refl; surely = tt }) refl
          c.batch-end.ensures.run;
    }
