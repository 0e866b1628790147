use Rattle.std.proofs.Common.{◌∙◌}
use Rattle.dsn_hand_in.proofs.CourseLemmas.{still, submitted_by, unchanged_by}
use Rattle.dsn_hand_in.proofs.mail_outlet.MailOutlet.submit_due.Goals as goal

-- none is due
pub returns-in_default : goal.returns-in_default
returns-in_default g c = still g.S.Source g.S.Drain g.C.Connect.gives g.K.RefusedLetters.keeps g.M.Marks c.args.self.now

-- memory was refused
pub returns-in_err-handled : goal.returns-in_err-handled
returns-in_err-handled g c =
    let inside = c.self.inside in
    let same = c.in_err-handled.ensures in
    unchanged_by g.S.Source g.S.Drain g.C.Connect.gives g.K.RefusedLetters.keeps g.M.Marks
    c.args.self.now inside.site.now inside.parts inside.is_short c.step.new.self c.step.new.server c.step.new.refused c.step.new.marks c.self.view_is
    same.unasked.0 same.unasked.1 same.unkept.0 same.unkept.1

-- one was submitted
pub returns : goal.returns
returns g c =
    let inside = c.self.inside in
    let handled = c.in-Some-2.handled in
    submitted_by g.S.Source g.S.Drain g.C.Connect.gives g.K.RefusedLetters.keeps g.M.Marks
    c.args.self.now inside.site.now inside.parts
    (record { submitter = c.step.new.self; server = c.step.new.server; refused = c.step.new.refused; marks = c.step.new.marks }) inside.is_short c.args.now
    handled.serial handled.fault handled.verdict c.self.view_is
    (rw c.in-Some-2.is at c.in_ok-handled.ensures.handled)
    (rw c.in-Some-2.is at c.in_ok-handled.ensures.serial)
    c.in-Some.next.now _
    (rw c.in-Some.is at c.next_letter.ensures)
    (c.self-2.view_is ∙ c.report.ensures)
