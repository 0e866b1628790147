-- Over all bytes there is one session, and one alone.
use Rattle.dsn_frame.proofs.OneSession.{one_rest, one_session}
use Rattle.dsn_frame.proofs.SomeSession.{some_session}
use Rattle.dsn_frame.proofs.laws.sessions_are_functions_of_their_bytes.Goals as goal

pub returns-clause-some : goal.returns-clause-some
returns-clause-some c = some_session

pub returns-clause-one : goal.returns-clause-one
returns-clause-one c = one_session

pub returns-clause-rest : goal.returns-clause-rest
returns-clause-rest c = one_rest
