-- What an agent's thread gives back: the agent's line, and its halves once it said goodbye and was
-- heard.
use Rattle.std.specs.Prelude.{Option}
use Rattle.dsn_crew.specs.agents.Agent.{LaneHalves}
use Rattle.dsn_crew.specs.declared.agents.agent_line.AgentLine.{AgentLine}

pub record PortEnd : Type 0 where
  pub line : AgentLine
  pub finished : Option LaneHalves
