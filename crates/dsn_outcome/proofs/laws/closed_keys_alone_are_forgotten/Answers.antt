use Rattle.dsn_outcome.proofs.Forgetting.{forgets_closed, keeps_open}
use Rattle.dsn_outcome.proofs.laws.closed_keys_alone_are_forgotten.Goals as goal

pub returns-clause-closed : goal.returns-clause-closed
returns-clause-closed c limits key history closed request is = forgets_closed limits history request key closed is

pub returns-clause-other : goal.returns-clause-other
returns-clause-other c limits key history still request is = keeps_open limits history request key still is
