use Rattle.std.proofs.Common.{inl, inr, [], ◌∙◌, sym, refl}
use Rattle.dsn_report.specs.Outgoing.{begun}
use Rattle.noticed_lib.specs.daemon.Journaled.{not_opened, posted_first}
use Rattle.noticed_lib.proofs.daemon.JournaledLemmas.{at_opening, posted_is, stands_for_all}
use Rattle.noticed_lib.proofs.daemon.serve_over_journal.start_over.Goals as goal

pub begin_ledger-requires : goal.begin_ledger-requires
begin_ledger-requires g c = record { letters = record { mark = _; to_post = c.ledgers_have_one_history.ensures.all_marked _ _ _ (stands_for_all g.D.Disk c.in-Ok.opened.1.ledger c.in-Ok.ensures.ledger.settled c.in-Ok.ensures.ledger.awaits) }; opened = (c.args.folder.journal, record { edges = c.in-Ok.opened.0.edges; opened = c.in-Ok.opened.1; is = c.in-Ok.ensures.ledger; allowed = c.in-Ok.ensures.allowed }) }

pub returns-in-Err-clause-fault : goal.returns-in-Err-clause-fault
returns-in-Err-clause-fault g c = not_opened refl c.in-Err.ensures.refused

pub returns-then-has_failed-clause-fault : goal.returns-then-has_failed-clause-fault
returns-then-has_failed-clause-fault g c = posted_first c.hand_first-outgoing.result (posted_is g.D.Disk g.M.Disk g.W.Drain c.args.site c.args.limits c.args.folder.journal c.args.folder.marks c.args.outbox c.in-Ok.opened.0 c.in-Ok.opened.1.letters.items c.new-outbox.result c.hand_first-outgoing.result (c.new-outbox.ensures ∙ c.new.ensures) c.in-Ok.ensures.folder (c.hand_first-outgoing.ensures (begun c.args.site c.new-outbox.result) [] c.new-2.ensures.delivered)) c.after.ensures.outbox c.after.ensures.marks
    (inl (sym c.has_failed.ensures ∙ c.if-has_failed.true, c.after.ensures.code))

pub returns-then-has_failed-clause-crash : goal.returns-then-has_failed-clause-crash
returns-then-has_failed-clause-crash g c = rw (c.after.ensures.journal, c.into_disk.ensures.disk)
    (at_opening g.D.Disk c.args.limits c.in-Ok.opened.0.edges c.args.folder.journal c.in-Ok.opened.1 c.in-Ok.ensures.allowed c.in-Ok.ensures.ledger)

pub returns-in-Ok-begin_ledger-clause-begun : goal.returns-in-Ok-begin_ledger-clause-begun
returns-in-Ok-begin_ledger-clause-begun g c = c.in-Ok-begin_ledger.ensures.begun c.args.folder.journal (record { edges = c.in-Ok.opened.0.edges; opened = c.in-Ok.opened.1; is = c.in-Ok.ensures.ledger; allowed = c.in-Ok.ensures.allowed })

pub returns-in-Ok-begin_ledger-clause-first : goal.returns-in-Ok-begin_ledger-clause-first
returns-in-Ok-begin_ledger-clause-first g c = (posted_is g.D.Disk g.M.Disk g.W.Drain c.args.site c.args.limits c.args.folder.journal c.args.folder.marks c.args.outbox c.in-Ok.opened.0 c.in-Ok.opened.1.letters.items c.new-outbox.result c.hand_first-outgoing.result (c.new-outbox.ensures ∙ c.new.ensures) c.in-Ok.ensures.folder (c.hand_first-outgoing.ensures (begun c.args.site c.new-outbox.result) [] c.new-2.ensures.delivered))

pub returns-in-Ok-begin_ledger-clause-all_sent : goal.returns-in-Ok-begin_ledger-clause-all_sent
returns-in-Ok-begin_ledger-clause-all_sent g c = ((posted_is g.D.Disk g.M.Disk g.W.Drain c.args.site c.args.limits c.args.folder.journal c.args.folder.marks c.args.outbox c.in-Ok.opened.0 c.in-Ok.opened.1.letters.items c.new-outbox.result c.hand_first-outgoing.result (c.new-outbox.ensures ∙ c.new.ensures) c.in-Ok.ensures.folder (c.hand_first-outgoing.ensures (begun c.args.site c.new-outbox.result) [] c.new-2.ensures.delivered)).posted.while_good (sym c.has_failed.ensures ∙ c.if-has_failed.false)).none_unsent

pub returns-in-Err-begin_ledger-clause-fault : goal.returns-in-Err-begin_ledger-clause-fault
returns-in-Err-begin_ledger-clause-fault g c = posted_first c.hand_first-outgoing.result (posted_is g.D.Disk g.M.Disk g.W.Drain c.args.site c.args.limits c.args.folder.journal c.args.folder.marks c.args.outbox c.in-Ok.opened.0 c.in-Ok.opened.1.letters.items c.new-outbox.result c.hand_first-outgoing.result (c.new-outbox.ensures ∙ c.new.ensures) c.in-Ok.ensures.folder (c.hand_first-outgoing.ensures (begun c.args.site c.new-outbox.result) [] c.new-2.ensures.delivered)) c.after-in-Err-begin_ledger.ensures.outbox c.after-in-Err-begin_ledger.ensures.marks
    (inr (sym c.has_failed.ensures ∙ c.if-has_failed.false, rw c.after-in-Err-begin_ledger.ensures.code (c.in-Err-begin_ledger.ensures.refused c.args.folder.journal (record { edges = c.in-Ok.opened.0.edges; opened = c.in-Ok.opened.1; is = c.in-Ok.ensures.ledger; allowed = c.in-Ok.ensures.allowed }))))

pub returns-in-Err-begin_ledger-clause-crash : goal.returns-in-Err-begin_ledger-clause-crash
returns-in-Err-begin_ledger-clause-crash g c = rw c.after-in-Err-begin_ledger.ensures.journal (c.in-Err-begin_ledger.ensures.crash c.args.folder.journal (record { edges = c.in-Ok.opened.0.edges; opened = c.in-Ok.opened.1; is = c.in-Ok.ensures.ledger; allowed = c.in-Ok.ensures.allowed }))
