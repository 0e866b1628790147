use Rattle.dsn_hand_in.proofs.CourseLemmas.{then_taken}
use Rattle.dsn_hand_in.proofs.mail_outlet.MailOutletOutlet.hand.Goals as goal

pub returns-clause-posted : goal.returns-clause-posted
returns-clause-posted g c start letters passed =
    then_taken g.S.Source g.S.Drain g.C.Connect.gives g.K.RefusedLetters.keeps g.M.Marks
    start c.args.self.now c.take.new.self letters c.args.letter passed c.take.ensures
