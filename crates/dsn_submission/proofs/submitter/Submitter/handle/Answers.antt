use Rattle.std.proofs.Common.{Some, ap, sym, ◌∙◌}
use Rattle.dsn_submission.specs.Submitter.{Submitter}
use Rattle.dsn_submission.specs.Waiting.{letter_in_hand, serial_in_hand}
use Rattle.dsn_submission.proofs.SubmitterLemmas.{handled_by}
use Rattle.dsn_submission.proofs.submitter.Submitter.handle.Goals as goal

pub returns-clause-handled : goal.returns-clause-handled
returns-clause-handled g c letter here =
    handled_by g.S.Source g.S.Drain g.C.Connect.gives g.K.RefusedLetters.keeps g.M.Marks.settles
    c.args.self.now c.ask.new.self c.conclude-verdict.new.self c.tell.new.self c.args.server.now c.ask.new.server
    c.args.refused.now c.conclude-verdict.new.refused c.args.marks.now c.tell.new.marks
    (g.T.Mail.path_of letter.item) (g.T.Mail.message_of letter.item) c.args.now (Some c.in-Some.serial) c.in-Ok.fault c.conclude-verdict.result
    c.in-Ok.ensures.same c.conclude-verdict.ensures.concluded c.tell.ensures.same
    (sym c.in-Some.is ∙ c.serial_in_hand.ensures ∙ ap serial_in_hand c.waiting.ensures)
    (c.in-Ok.ensures.asked letter here)
    (c.conclude-verdict.ensures.kept letter (ap (λ (submitter : Submitter _ _). letter_in_hand submitter.waiting) c.in-Ok.ensures.same ∙ here))
    c.tell.ensures.told
