use Rattle.dsn_hand_in.proofs.CourseLemmas.{refused_by, settled_to}
use Rattle.std.proofs.Common.{ap, ◌∙◌, rules}
use Rattle.dsn_hand_in.specs.MailOutlet.{MailOutlet}
use Rattle.dsn_hand_in.proofs.mail_outlet.MailOutlet.take_settled.Goals as goal

pub returns-in-Ok : goal.returns-in-Ok
returns-in-Ok g c =
    let inside = c.self.inside in
    settled_to g.M.Marks
    c.args.self.now inside.site.now inside.parts inside.is_short c.push_settled.new.self c.args.letter.now
    c.self.view_is (ap (λ (o : MailOutlet _ _ _ _). o.short) c.self.view_is ∙ c.requires.short) c.requires.known c.in-Ok.ensures.ok

-- memory is refused now
pub returns-in-Err : goal.returns-in-Err
returns-in-Err g c =
    let inside = c.self.inside in
    refused_by g.M.Marks
    c.args.self.now inside.site.now inside.parts inside.is_short c.push_settled.new.self c.args.letter.now c.self.view_is c.in-Err.ensures.unchanged
