use Rattle.dsn_hand_in.proofs.CourseLemmas.{still}
use Rattle.dsn_hand_in.proofs.mail_outlet.MailOutlet.pause.Goals as goal

pub returns-in-Some-2 : goal.returns-in-Some-2
returns-in-Some-2 g c = still g.S.Source g.S.Drain g.C.Connect.gives g.K.RefusedLetters.keeps g.M.Marks c.args.self.now

pub returns-in-None : goal.returns-in-None
returns-in-None g c = still g.S.Source g.S.Drain g.C.Connect.gives g.K.RefusedLetters.keeps g.M.Marks c.args.self.now
