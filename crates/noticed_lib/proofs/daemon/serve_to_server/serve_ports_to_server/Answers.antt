use Rattle.std.proofs.Common.{inl, inr, ◌∙◌}
use Rattle.noticed_lib.proofs.daemon.serve_to_server.serve_ports_to_server.Goals as goal

pub begin_ledger-requires-clause-opened : goal.begin_ledger-requires-clause-opened
begin_ledger-requires-clause-opened g c = (c.args.folder.journal, record { edges = c.in-Ok.opened.0.edges; opened = c.in-Ok.opened.1; is = c.in-Ok.ensures.ledger; allowed = c.in-Ok.ensures.allowed })

pub run_mail-end-requires-clause-few : goal.run_mail-end-requires-clause-few
run_mail-end-requires-clause-few g c κs within = (c.in-Ok-begin_ledger.ensures.begun c.args.folder.journal (record { edges = c.in-Ok.opened.0.edges; opened = c.in-Ok.opened.1; is = c.in-Ok.ensures.ledger; allowed = c.in-Ok.ensures.allowed })).few

pub run_mail-end-requires-clause-begins : goal.run_mail-end-requires-clause-begins
run_mail-end-requires-clause-begins g c κs within = (c.in-Ok-begin_ledger.ensures.begun c.args.folder.journal (record { edges = c.in-Ok.opened.0.edges; opened = c.in-Ok.opened.1; is = c.in-Ok.ensures.ledger; allowed = c.in-Ok.ensures.allowed })).begins

pub returns-in-Err : goal.returns-in-Err
returns-in-Err g c = record {
  code = _;
  why = inl (rw (c.write_not_started.ensures.journal, c.write_not_started.ensures.marks) c.in-Err.ensures.refused);
  noted = c.write_not_started.ensures.notes;
  crash = rw c.write_not_started.ensures.journal c.in-Err.ensures.crash;
}

pub returns-in-Err-begin_ledger : goal.returns-in-Err-begin_ledger
returns-in-Err-begin_ledger g c = record {
  code = _;
  why = inr (c.in-Ok.opened.0, (c.in-Ok.opened.1.letters.items, (c.in-Ok.ensures.folder, (rw c.deref.ensures.value at (c.in-Err-begin_ledger.ensures.refused c.args.folder.journal (record { edges = c.in-Ok.opened.0.edges; opened = c.in-Ok.opened.1; is = c.in-Ok.ensures.ledger; allowed = c.in-Ok.ensures.allowed })), c.write_not_started-in-Err-begin_ledger.ensures.marks ∙ c.into_disk.ensures.disk))));
  noted = c.write_not_started-in-Err-begin_ledger.ensures.notes;
  crash = rw c.write_not_started-in-Err-begin_ledger.ensures.journal (c.in-Err-begin_ledger.ensures.crash c.args.folder.journal (record { edges = c.in-Ok.opened.0.edges; opened = c.in-Ok.opened.1; is = c.in-Ok.ensures.ledger; allowed = c.in-Ok.ensures.allowed }));
}

pub returns : goal.returns
returns g c = record {
  ledger = c.in-Ok-begin_ledger.keeper;
  opened = c.in-Ok.opened.0;
  first = c.in-Ok.opened.1.letters.items;
  given = c.run_mail-end.ensures.0;
  folder = c.in-Ok.ensures.folder;
  begun = c.in-Ok-begin_ledger.ensures.begun c.args.folder.journal (record { edges = c.in-Ok.opened.0.edges; opened = c.in-Ok.opened.1; is = c.in-Ok.ensures.ledger; allowed = c.in-Ok.ensures.allowed });
  rule = c.in-Ok-begin_ledger.ensures.rule;
  passed = rw c.new_outlet-outlet.ensures at c.run_mail-end.ensures.1.0;
  left = c.run_mail-end.result.0;
  run = rw c.of-2.ensures.journal c.run_mail-end.ensures.1.1;
  left_is = c.of-2.ensures.left;
  status_is = c.of-2.ensures.status;
}
