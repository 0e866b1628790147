use Rattle.std.proofs.Common.{rules, subst, sym}
use Rattle.dsn_report.specs.Outgoing.{IsOutbox}
use Rattle.noticed_lib.proofs.batch_run.whole_batch.end.Goals as goal

pub returns : goal.returns
returns g c = λ site start letters delivered.
    let finished = c.finish-outbox.result in
    record {
      outbox = subst (λ unsent. IsOutbox g.W.Drain site start finished.outbox finished.whole unsent letters) (sym c.write_last_lines-unsent.ensures.letters) (c.finish-outbox.ensures.outbox site start letters delivered);
      lost = c.write_last_lines-unsent.new.writing.failed;
      noted = search rules;
      fault_is = search rules;
      status_is = search rules;
    }
