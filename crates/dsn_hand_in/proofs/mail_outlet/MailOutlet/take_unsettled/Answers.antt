use Rattle.dsn_hand_in.proofs.CourseLemmas.{come_to, refused_by}
use Rattle.std.proofs.Common.{ap, ◌∙◌, sym}
use Rattle.dsn_hand_in.specs.MailOutlet.{MailOutlet}
use Rattle.dsn_hand_in.proofs.mail_outlet.MailOutlet.take_unsettled.Goals as goal

pub returns-in-Ok : goal.returns-in-Ok
returns-in-Ok g c =
    let inside = c.self.inside in
    come_to g.M.Marks
    c.args.self.now inside.site.now inside.parts inside.is_short c.push.new.self c.args.letter c.new.result c.moment-now.result
    c.self.view_is (ap (λ (o : MailOutlet _ _ _ _). o.short) c.self.view_is ∙ c.requires.short) c.requires.unknown c.new.ensures c.in-Ok.ensures.ok

-- memory is refused now
pub returns-in-Err : goal.returns-in-Err
returns-in-Err g c =
    let inside = c.self.inside in
    refused_by g.M.Marks
    c.args.self.now inside.site.now inside.parts inside.is_short c.push.new.self c.args.letter c.self.view_is c.in-Err.ensures.unchanged
