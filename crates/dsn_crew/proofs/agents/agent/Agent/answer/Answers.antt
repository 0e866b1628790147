use Rattle.dsn_crew.proofs.agents.ServeLemmas.{turn-refused}
use Rattle.dsn_crew.proofs.agents.agent.Agent.answer.Goals as goal

pub returns-in-Err-clause-turn : goal.returns-in-Err-clause-turn
returns-in-Err-clause-turn g c =
    rw (c.code.ensures, c.ends.ensures) (turn-refused c.args.self.now c.args.place c.args.bytes.now c.in-Err.refusal (c.in-Err.ensures.taken _ _ _))
