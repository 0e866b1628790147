-- What the goodbye leaves is the half of the agent's requests.
use Rattle.std.proofs.Common.{rules}
use Rattle.dsn_crew.proofs.agents.AgentLemmas.{finishes}
use Rattle.dsn_crew.proofs.agents.unheard.say_bye.Goals as goal

pub new-requires : goal.new-requires
new-requires g c = finishes _ _ _ c.requires.stays c.requires.answered c.in-Ok-Gone.ensures.1 (search rules)
