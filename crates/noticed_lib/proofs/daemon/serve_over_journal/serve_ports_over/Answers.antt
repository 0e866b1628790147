use Rattle.std.proofs.Common.{inl, inr}
use Rattle.noticed_lib.proofs.daemon.serve_over_journal.serve_ports_over.Goals as goal

pub run_outbox-end-requires-clause-posted : goal.run_outbox-end-requires-clause-posted
run_outbox-end-requires-clause-posted g c κs within = (c.args.site, c.in-Ok.ensures.first.start, c.in-Ok.ensures.first.first, c.in-Ok.ensures.first.posted)

pub returns-in-Ok : goal.returns-in-Ok
returns-in-Ok g c = inr (record {
  ledger = c.in-Ok.start.keeper;
  poster = c.in-Ok.start.outlet;
  begun = c.in-Ok.ensures.begun;
  rule = c.in-Ok.ensures.rule;
  first = c.in-Ok.ensures.first;
  all_sent = c.in-Ok.ensures.all_sent;
  left = c.run_outbox-end.result.0;
  run = rw c.of.ensures.journal c.run_outbox-end.ensures;
  end_is = c.of.ensures.end;
  last_marks_are = c.of.ensures.marks;
})

pub returns-in-Err : goal.returns-in-Err
returns-in-Err g c = inl (record { code = _; back = _; why = rw (c.write_not_started.ensures.journal, c.write_not_started.ensures.marks) c.in-Err.ensures.fault; noted = c.write_not_started.ensures.notes; crash = rw c.write_not_started.ensures.journal c.in-Err.ensures.crash })
