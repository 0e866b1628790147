use Rattle.dsn_text.proofs.StatusLemmas.{is_class-held}
use Rattle.dsn_text.proofs.status.Status.class.Goals as goal

pub returns-clause-known : goal.returns-clause-known
returns-clause-known c = is_class-held c.self.inside.len c.self.inside.buffer c.self.invariant.0
