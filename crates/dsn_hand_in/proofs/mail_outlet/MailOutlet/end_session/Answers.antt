use Rattle.dsn_hand_in.proofs.CourseLemmas.{ended_by}
use Rattle.dsn_hand_in.proofs.mail_outlet.MailOutlet.end_session.Goals as goal

pub returns-clause-passed : goal.returns-clause-passed
returns-clause-passed g c =
    let inside = c.self.inside in
    ended_by g.S.Source g.S.Drain g.C.Connect.gives g.K.RefusedLetters.keeps g.M.Marks
    c.args.self.now inside.site.now inside.parts inside.is_short c.end_session.new.self c.self.view_is c.end_session.ensures
