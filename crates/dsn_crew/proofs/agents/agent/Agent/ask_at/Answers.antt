use Rattle.dsn_crew.proofs.agents.ServeLemmas.{turn-asked}
use Rattle.dsn_crew.proofs.agents.agent.Agent.ask_at.Goals as goal

pub returns-clause-turn : goal.returns-clause-turn
returns-clause-turn g c = λ place bytes encoded. rw c.turn_of.ensures (turn-asked _ _ _ place bytes encoded _ c.ask-asked.ensures.ask)
