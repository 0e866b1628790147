use Rattle.std.proofs.Common.{◌≡◌, inl, inr, length, ap, subst, ◌∙◌}
use Rattle.std.specs.Prelude.{IfSome, is_some}
use Rattle.dsn_crew.specs.Crew.{CrewFault, MayCrashWithin}
use Rattle.dsn_ledger.specs.KeptBook.{keeper_of_ledger}
use Rattle.dsn_ledger.specs.OpenLedger.{rules_of}
use Rattle.dsn_ledger.proofs.Goodbyes.{none_to_carry_out}
use Rattle.noticed_lib.specs.daemon.Serve.{WritesFault}
use Rattle.noticed_lib.proofs.daemon.JournaledLemmas.{handed, none_awaited}
use Rattle.noticed_lib.proofs.daemon.journal_run.run_over.Goals as goal

pub run_crew_over-requires-clause-begins : goal.run_crew_over-requires-clause-begins
run_crew_over-requires-clause-begins g c κs within = rw c.new-keeper.ensures c.requires.begins

pub write_kept_account-requires : goal.write_kept_account-requires
write_kept_account-requires g c =
    let posted = c.requires.posted in
    let begins = c.requires.begins in
    let run = rw c.new-keeper.ensures at c.in-Ok.ensures.run in
    let account = run.account posted.0 posted.1 posted.2 begins.0 begins.1 in
    record { none = λ settled. none_awaited g.D.Disk c.in-Ok.account.book _ (none_to_carry_out g.D.Disk c.in-Ok.account.book _ account.is.book).awaits }

pub returns-in-Ok : goal.returns-in-Ok
returns-in-Ok g c = let run = rw c.new-keeper.ensures at c.in-Ok.ensures.run in inl (record {
  account = c.in-Ok.account;
  crew = run.account;
  count = c.in-Ok.ensures.count;
  noted = c.write_kept_account.ensures.notes;
  outbox_is = c.write_kept_account.ensures.outbox;
  crash = run.crash;
  forgets = c.write_kept_account.ensures.crash;
})

pub disk_of-requires : goal.disk_of-requires
disk_of-requires g c = ap (λ (fault : CrewFault _ _). is_some fault.book) c.fault.view_is ∙ c.in-Err.ensures.run.handed_back

pub returns-in-Err : goal.returns-in-Err
returns-in-Err g c =
    let run = rw c.new-keeper.ensures at c.in-Err.ensures.run in
    let back = handed c.in-Err.fault.book c.in-Err.ensures.run.handed_back in inr (record {
      fault = c.in-Err.fault;
      crew = run.fault;
      counted = c.in-Err.ensures.refused;
      noted = subst (λ (fault : CrewFault _ _). WritesFault g.N.Drain fault.cause fault.outbox fault.unsent c.args.notes.now c.write_fault-end.new.notes c.write_fault-end.result) c.fault.view_is (rw c.code.ensures at c.write_fault-end.ensures);
      left = back.0;
      left_is = back.1;
      last_is = subst (λ book. IfSome book (λ left. c.disk_of.result ≡ left.journal.disk)) (ap (λ (fault : CrewFault _ _). fault.book) c.fault.view_is ∙ back.1) c.disk_of.ensures;
      crash = λ before with_it. subst (λ book. IfSome book (MayCrashWithin (keeper_of_ledger g.D.Disk g.C.MarkCount.may_reach) c.args.start.keeper (rules_of c.args.start.keeper) before (length c.args.ports.items) c.in-Err.fault.taken c.in-Err.fault.behind)) back.1 (run.crash_at_fault before with_it);
    })
