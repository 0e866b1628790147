use Rattle.std.proofs.Common.{refl, sym, subst}
use Rattle.dsn_journal.specs.Marks.{SayEdges}
use Rattle.dsn_journal.specs.SettledLetters.{AreEdges}
use Rattle.dsn_journal.specs.Records.{recovered}
use Rattle.noticed_lib.specs.daemon.Journaled.{LeavesMarksOpened, no_ledger, no_marks}
use Rattle.noticed_lib.proofs.daemon.JournaledLemmas.{folder_is, marks_refused, only_read, untouched, while_opened}
use Rattle.noticed_lib.proofs.daemon.journal_folder.JournalFolder.open.Goals as goal

pub returns-in-Ok-open_to_raise-clause-folder : goal.returns-in-Ok-open_to_raise-clause-folder
returns-in-Ok-open_to_raise-clause-folder g c =
    folder_is g.D.Disk c.args.limits c.letters.result.now c.args.self.journal c.in-Ok-open_to_raise.opened c.in-Ok-open_to_raise.ensures.allowed c.in-Ok-open_to_raise.ensures.opened g.M.Disk c.args.self.marks c.in-Ok.marks
    c.letters.ensures.letters c.letters.ensures.marks c.in-Ok.ensures.settled c.in-Ok.ensures.edges c.in-Ok.ensures.leaves c.in-Ok.ensures.any_moment

pub returns-in-Ok-open_to_raise-clause-ledger : goal.returns-in-Ok-open_to_raise-clause-ledger
returns-in-Ok-open_to_raise-clause-ledger g c = rw (← c.letters.ensures.letters) c.in-Ok-open_to_raise.ensures.opened

pub returns-in-Err-clause-refused : goal.returns-in-Err-clause-refused
returns-in-Err-clause-refused g c =
    let left = c.in-Err.ensures in
    no_marks c.in-Err.left.cause c.code.ensures (marks_refused (g.M.Disk.seen c.args.self.marks) c.in-Err.left.cause left.foreign left.damaged left.lost left.short left.not_full) refl
    (only_read g.M.Disk c.args.self.marks c.in-Err.left.disk _ left.untouched left.unwritten) left.any_moment left.count

pub returns-in-Err-open_to_raise-clause-refused : goal.returns-in-Err-open_to_raise-clause-refused
returns-in-Err-open_to_raise-clause-refused g c =
    let says = subst (SayEdges (recovered (g.M.Disk.seen c.args.self.marks))) (sym c.letters.ensures.letters) c.in-Ok.ensures.edges in
    let valid = subst AreEdges (sym c.letters.ensures.letters) c.letters.ensures.marks.valid in
    let marks_opened = subst (LeavesMarksOpened g.M.Disk c.args.self.marks) (sym c.into_disk.ensures.disk) c.in-Ok.ensures.any_moment in
    no_ledger c.in-Err-open_to_raise.left.cause c.letters.result.now c.code-in-Err-open_to_raise.ensures (record { own = c.in-Ok.ensures.new; room = c.in-Ok.ensures.room; whole = c.in-Ok.ensures.whole; says = says; valid = valid })
    c.in-Err-open_to_raise.ensures.refused marks_opened

pub returns-in-Err-clause-crash : goal.returns-in-Err-clause-crash
returns-in-Err-clause-crash g c = untouched g.D.Disk c.args.limits c.args.self.journal (g.met.D.Disk.only_now c.args.self.journal)

pub returns-in-Err-open_to_raise-clause-crash : goal.returns-in-Err-open_to_raise-clause-crash
returns-in-Err-open_to_raise-clause-crash g c =
    while_opened g.D.Disk c.args.limits c.args.self.journal c.in-Err-open_to_raise.ensures.allowed _ c.in-Err-open_to_raise.ensures.refused.any_moment
