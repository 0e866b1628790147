-- Closes: which agents are those of a collector, and the result of closing a crew.
use Rattle.std.specs.Prelude.{◌≡◌, List, All, Contains, map}
use Rattle.dsn_book.specs.declared.keeper.Keeper.{Ghosts as Keeper}
use Rattle.dsn_outcome.specs.Agents.{from_agent}
use Rattle.dsn_outcome.specs.History.{Exchange, answers_to}
use Rattle.dsn_outcome.specs.Request.{Request}
use Rattle.dsn_crew.specs.agents.Agent.{LaneHalves}
use Rattle.dsn_crew.specs.desk.Desk.{Desk, history, agent_lanes_of}
use Rattle.dsn_crew.specs.agents.AgentLanes.{lanes_of}

-- these are all agents of this collector, in their order
abbrev pub AreCrew : {B : Type 0} → List LaneHalves → Desk B → Type 0
AreCrew crew desk = map lanes_of crew ≡ agent_lanes_of desk

-- all that an agent sent was taken, in that order, and it got just the answers that the history
-- gives it. That history follows the one that the collector began with
pub record IsHeard {B : Type 0} (keeper : Keeper B) (before : List Exchange) (desk : Desk B)
    (halves : LaneHalves) : Type 0 where
  pub taken : from_agent
      (λ (request : Request). request.agent) halves.requests.agent desk.requests.taken
      ≡ halves.requests.sent
  pub got : halves.answers.taken
      ≡ answers_to halves.requests.agent (history keeper before desk)

-- these requests are of these agents
abbrev pub AreOf : List LaneHalves → List Request → Type 0
AreOf crew requests =
    All (λ (request : Request). Contains
    (map (λ (halves : LaneHalves). halves.requests.agent) crew) request.agent) requests

-- a closed crew: its book, and its agents and its collector as they were at the close
pub record Shut (B : Type 0) : Type 0 where
  pub book : B
  pub crew : List LaneHalves
  pub desk : Desk B
