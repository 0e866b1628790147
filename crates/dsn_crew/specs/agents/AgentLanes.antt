-- An agent in a crew: its number and its two lanes.
use Rattle.std.specs.Prelude.{ℕ}
use Rattle.dsn_crew.specs.lane.Halves.{Half, Identity}
use Rattle.dsn_outcome.specs.Request.{Request}
use Rattle.dsn_outcome.specs.declared.answer.Answer.{Answer}
use Rattle.dsn_crew.specs.agents.Agent.{LaneHalves}

-- an agent's number, the lane on which it asks, and the one on which it is answered
pub record AgentLanes : Type 0 where
  pub agent : ℕ
  pub asks : Identity Request
  pub answered : Identity Answer

abbrev pub lanes_of : LaneHalves → AgentLanes
lanes_of halves =
    record { agent = halves.requests.agent; asks = halves.requests.lane; answered = halves.answers.lane }

-- the lanes of the agent that this half answers, in a crew with this request lane
abbrev pub lanes_at : Identity Request → Half Answer → AgentLanes
lanes_at lane half = record { agent = half.agent; asks = lane; answered = half.lane }
