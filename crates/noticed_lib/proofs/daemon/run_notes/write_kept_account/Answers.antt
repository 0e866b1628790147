-- A crash leaves the history with the first of the requests that let the closed keys go.
use Rattle.std.proofs.Common.{◌≡◌, ap, sym, ◌∙◌, subst, true≢false}
use Rattle.noticed_lib.specs.daemon.Journaled.{IsForgottenIn}
use Rattle.noticed_lib.proofs.daemon.JournaledLemmas.{forgot, forgot_all}
use Rattle.noticed_lib.proofs.daemon.run_notes.write_kept_account.Goals as goal

pub returns-clause-crash : goal.returns-clause-crash
returns-clause-crash g c =
    let ledger_is : c.into_ledger-ledger.result ≡ c.args.account.book = c.into_ledger-ledger.ensures ∙ c.into_keeper.ensures ∙ ap (λ it. it.book) c.account.view_is in
    let called = c.forget_closed.ensures in
    subst (λ l. IsForgottenIn g.D.Disk l c.into_disk.result) ledger_is
    (record {
      left = c.forget_closed.new.self;
      last_is = c.into_disk.ensures.disk;
      result = c.forget_closed.result;
      forgotten = called.forgotten;
      stands = forgot_all g.D.Disk c.into_ledger-ledger.result c.forget_closed.new.self _ c.forget_closed.result called.settled called.durable called.awaits called.ledger;
      held = called.book;
      settled = λ settled unsettled. true≢false (sym settled ∙ called.unsettled.0 unsettled);
      full = called.full;
      failures = ap g.D.Disk.failures c.into_disk.ensures.disk ∙ called.count;
      crash = λ before kept. forgot g.D.Disk c.into_ledger-ledger.result c.forget_closed.new.self before kept _ (g.met.D.Disk.only_now c.into_ledger-ledger.result.journal.disk) c.forget_closed.result called.bodies called.unchanged (called.any_moment kept.settled);
    })
