use Rattle.std.proofs.Common.{[]}
use Rattle.dsn_hand_in.proofs.CourseLemmas.{goes_on, still}
use Rattle.dsn_hand_in.proofs.mail_outlet.MailOutlet.submit_until.Goals as goal

pub loop-init : goal.loop-init
loop-init g c = still g.S.Source g.S.Drain g.C.Connect.gives g.K.RefusedLetters.keeps g.M.Marks c.args.self.now

pub loop-preserved : goal.loop-preserved
loop-preserved g c =
    goes_on g.S.Source g.S.Drain g.C.Connect.gives g.K.RefusedLetters.keeps g.M.Marks
    c.args.self.now c.loop.self c.submit_due.new.self [] c.loop.invariant c.submit_due.ensures

pub returns-in_default : goal.returns-in_default
returns-in_default g c =
    goes_on g.S.Source g.S.Drain g.C.Connect.gives g.K.RefusedLetters.keeps g.M.Marks
    c.args.self.now c.loop.self c.submit_due.new.self [] c.loop.invariant c.submit_due.ensures

pub returns-in_default-2 : goal.returns-in_default-2
returns-in_default-2 g c =
    goes_on g.S.Source g.S.Drain g.C.Connect.gives g.K.RefusedLetters.keeps g.M.Marks
    c.args.self.now c.loop.self c.submit_due.new.self [] c.loop.invariant c.submit_due.ensures
