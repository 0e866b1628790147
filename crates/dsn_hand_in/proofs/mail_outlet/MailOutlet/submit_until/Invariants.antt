use Rattle.std.proofs.Common.{[]}
use Rattle.dsn_hand_in.specs.MailOutlet.{Passes}
use Rattle.dsn_hand_in.proofs.mail_outlet.MailOutlet.submit_until.Given as goal

-- no letter was passed so far
abbrev pub invariant-loop : goal.invariant-loop
invariant-loop g l = Passes g.S.Source g.S.Drain g.C.Connect.gives g.K.RefusedLetters.keeps g.M.Marks l.fn.self [] l.self
