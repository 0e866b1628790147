use Rattle.noticed_lib.proofs.client.LawLemmas.{sees-answers, sees-session}
use Rattle.noticed_lib.proofs.client.laws.sends_are_sessions_of_a_client.Goals as goal

pub returns-clause-answers : goal.returns-clause-answers
returns-clause-answers c = sees-answers

pub returns-clause-session : goal.returns-clause-session
returns-clause-session c = sees-session
