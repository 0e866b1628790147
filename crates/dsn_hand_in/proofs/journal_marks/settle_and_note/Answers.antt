use Rattle.std.proofs.Common.{◌≡◌, is_ok, true, false, rules, ap}
use Rattle.dsn_hand_in.proofs.JournalMarksLemmas.{keeps_settled}
use Rattle.dsn_hand_in.proofs.journal_marks.settle_and_note.Goals as goal

pub returns-in_err-settle-clause-kept : goal.returns-in_err-settle-clause-kept
returns-in_err-settle-clause-kept g c =
    let failed : is_ok c.from_residual.result ≡ false = search rules in
    let kept = c.settle.ensures in
    rw failed
    (keeps_settled g.D.Disk c.args.marks.now c.settle.new.marks c.args.serial c.settle.result false (ap is_ok c.in_err-settle.was)
    kept.keeps kept.settled kept.unchanged kept.leaves kept.any_moment kept.count)

pub returns-clause-kept : goal.returns-clause-kept
returns-clause-kept g c =
    let kept = c.settle.ensures in
    keeps_settled g.D.Disk c.args.marks.now c.settle.new.marks c.args.serial c.settle.result true (ap is_ok c.in_ok-settle.was)
    kept.keeps kept.settled kept.unchanged kept.leaves kept.any_moment kept.count
