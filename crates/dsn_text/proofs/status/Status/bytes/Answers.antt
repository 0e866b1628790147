use Rattle.dsn_text.proofs.StatusLemmas.{IsStatusCode-test}
use Rattle.dsn_text.proofs.status.Status.bytes.Goals as goal

pub returns-clause-legal : goal.returns-clause-legal
returns-clause-legal c = rw (← c.self.view_is) (IsStatusCode-test _ c.self.invariant.0)
