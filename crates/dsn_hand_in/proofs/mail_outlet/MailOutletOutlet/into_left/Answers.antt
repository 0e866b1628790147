use Rattle.dsn_hand_in.proofs.CourseLemmas.{still}
use Rattle.dsn_hand_in.proofs.mail_outlet.MailOutletOutlet.into_left.Goals as goal

pub returns : goal.returns
returns g c = record {
  last = c.args.self;
  passed = still g.S.Source g.S.Drain g.C.Connect.gives g.K.RefusedLetters.keeps g.M.Marks c.args.self;
  parts = c.into_parts.ensures;
}
