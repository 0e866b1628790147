use Rattle.dsn_hand_in.proofs.CourseLemmas.{one_more_dropped}
use Rattle.std.proofs.Common.{refl, ap, ◌∙◌, sym}
use Rattle.dsn_hand_in.specs.MailOutlet.{MailOutlet}
use Rattle.dsn_hand_in.proofs.mail_outlet.MailOutlet.take.Goals as goal

-- memory was refused before
pub returns-then-self : goal.returns-then-self
returns-then-self g c =
    one_more_dropped g.M.Marks
    c.args.self.now c.args.self.now c.args.letter (sym (ap (λ (o : MailOutlet _ _ _ _). o.short) c.self.view_is) ∙ c.if-self.true) refl
