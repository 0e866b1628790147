use Rattle.std.proofs.Common.{◌≡◌, true, None, refl, subst, sym}
use Rattle.dsn_smtp.specs.Body.{suffice_for}
use Rattle.dsn_smtp.specs.HandIn.{TurnsOver, fault_said}
use Rattle.dsn_smtp.specs.Pipelining.{TransactsAs}
use Rattle.dsn_smtp.specs.Session.{OpenSession, handed_in}
use Rattle.dsn_smtp.proofs.session.Session.submit.Goals as goal

pub invariant_of-result : goal.invariant_of-result
invariant_of-result g c =
    handed_in (record { stream = c.self.inside.stream; extensions = c.self.inside.extensions })
    (record { stream = c.transact-stream.result.0; extensions = c.self.inside.extensions }) c.args.path.now c.args.message.now c.args.buffer.now
    c.transact-stream.new.buffer c.self.invariant
    (subst (λ body. suffice_for c.self.inside.extensions body ≡ true) c.requires.kind
    (subst (λ (session : OpenSession _). suffice_for session.extensions c.args.body ≡ true) (sym c.self.view_is) c.requires.offered))
    (subst (λ body. TurnsOver g.S.Source g.S.Drain c.self.inside.stream c.transact-stream.result.0 (TransactsAs c.self.inside.extensions body c.args.path.now c.args.message.now)
    c.args.buffer.now c.transact-stream.new.buffer None) c.requires.kind
    (subst (λ handed. TurnsOver g.S.Source g.S.Drain c.self.inside.stream c.transact-stream.result.0 (TransactsAs c.self.inside.extensions c.args.body c.args.path.now c.args.message.now)
    c.args.buffer.now c.transact-stream.new.buffer (fault_said handed)) c.in-Ok.is c.transact-stream.ensures)) refl
