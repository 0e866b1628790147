use Rattle.std.proofs.Common.{[]}
use Rattle.dsn_hand_in.proofs.CourseLemmas.{goes_on}
use Rattle.dsn_hand_in.proofs.mail_outlet.MailOutlet.end.Goals as goal

pub returns-clause-passed : goal.returns-clause-passed
returns-clause-passed g c =
    goes_on g.S.Source g.S.Drain g.C.Connect.gives g.K.RefusedLetters.keeps g.M.Marks
    c.args.self.now c.submit_until.new.self c.end_session.new.self [] c.submit_until.ensures c.end_session.ensures.passed
