use Rattle.std.proofs.Common.{◌≡◌, Bool, is_ok, ap, sym, subst, ◌∙◌}
use Rattle.dsn_journal.specs.Marks.{Marks}
use Rattle.dsn_hand_in.specs.JournalMarks.{KeepsSettled}
use Rattle.dsn_hand_in.proofs.journal_marks.JournalMarksMarks.settle.Goals as goal
use Rattle.dsn_hand_in.proofs.journal_marks.JournalMarksMarks.settle.Goals.{in-Ok, in-Err}

-- it succeeds or fails as `settle_and_note` did
pub returns : goal.returns
returns g c =
    let same : is_ok c.settle_and_note.result ≡ is_ok c.match-settle_and_note.result = elim c.match-settle_and_note.branch [
      | in-Ok w ↦ ap is_ok w.in-Ok.is ∙ sym (ap is_ok w.result-is)
      | in-Err w ↦ ap is_ok w.in-Err.is ∙ sym (ap is_ok w.result-is)
    ] in
    subst (λ (ok : Bool). KeepsSettled g.D.Disk c.args.self.now c.args.serial ok c.settle_and_note.new.marks) same
    (subst (λ (marks : Marks g.row.D.Denot). KeepsSettled g.D.Disk marks c.args.serial (is_ok c.settle_and_note.result) c.settle_and_note.new.marks) c.self.view_is c.settle_and_note.ensures.kept)
