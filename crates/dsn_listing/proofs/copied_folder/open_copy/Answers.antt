use Rattle.std.proofs.Common.{List, ℕ, subst}
use Rattle.dsn_listing.specs.CopiedDisk.{copied_seen}
use Rattle.dsn_ledger.specs.JournalFolder.{IsJournalRefusedFor}
use Rattle.dsn_ledger.proofs.Awaiting.{stands_for_all}
use Rattle.dsn_ledger.proofs.JournalFolderLemmas.{journal_refused}
use Rattle.dsn_listing.proofs.CopiedFolderLemmas.{opened_is}
use Rattle.dsn_listing.proofs.copied_folder.open_copy.Goals as goal

pub returns-in-Ok-clause-opened : goal.returns-in-Ok-clause-opened
returns-in-Ok-clause-opened g c =
    let is = c.in-Ok.ensures in
    opened_is c.args.limits c.args.settled.now (g.D.Disk.seen c.args.journal.now) (copied_seen c.in_ok-copy.copy) c.in-Ok.opened c.in_ok-copy.ensures.copied is.new is.whole is.limits is.same is.size is.journal.end
    (stands_for_all _ c.in-Ok.opened.ledger is.stands) is.letters is.posted is.end (c.ledgers_have_one_history.ensures.one c.args.limits)

pub returns-in-Err-clause-refused : goal.returns-in-Err-clause-refused
returns-in-Err-clause-refused g c =
    let left = c.in-Err.ensures in
    let cause = c.in-Err.unopened.cause in
    subst (λ (file : List ℕ). IsJournalRefusedFor c.args.limits c.args.settled.now file cause) c.in_ok-copy.ensures.copied
    (journal_refused c.args.limits c.args.settled.now (copied_seen c.in_ok-copy.copy) cause left.foreign left.lost left.other left.damaged left.headed left.ahead left.begun left.behind left.full)
