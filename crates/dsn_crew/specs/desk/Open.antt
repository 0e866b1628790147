-- Openings: what a crew is before its first request.
use Rattle.std.specs.Prelude.{◌≡◌, ℕ, ◌<◌, ◌+◌, false, List, [], length, map}
use Rattle.std.specs.List.{slice_index_or}
use Rattle.dsn_book.specs.Book.{Book, Represents}
use Rattle.dsn_book.specs.Keeper.{book_keeper}
use Rattle.dsn_book.specs.declared.keeper.Keeper.{Ghosts as Keeper}
use Rattle.dsn_text.specs.FaultCode.{agent_count_code, crew_refused_code}
use Rattle.dsn_crew.specs.lane.Halves.{Half, Identity}
use Rattle.dsn_outcome.specs.History.{Limits}
use Rattle.dsn_outcome.specs.Request.{Request}
use Rattle.dsn_outcome.specs.declared.answer.Answer.{Answer}
use Rattle.dsn_crew.specs.agents.Agent.{Agent}
use Rattle.dsn_crew.specs.desk.Desk.{Desk, IsDesk}
use Rattle.dsn_crew.specs.declared.desk.crew_open_fault.CrewOpenFault.{CrewOpenFault}
use Rattle.dsn_crew.specs.declared.desk.crew_open_fault.CrewOpenFault.TheVariants.{NoMemory, AgentCount}

-- how many requests wait at most
abbrev pub requests_waiting : ℕ
requests_waiting = 64

abbrev pub crew_open_fault_code : CrewOpenFault → ℕ
crew_open_fault_code NoMemory = crew_refused_code
crew_open_fault_code AgentCount = agent_count_code

-- the agent whom this half answers, before its first request, on a request lane
abbrev pub opened_agent : ℕ → Identity Request → Half Answer → Agent
opened_agent limit lane half = record {
  halves = record {
    requests = record { lane = lane; agent = half.agent; sent = [] };
    answers = record { lane = half.lane; first = half.agent; past = half.agent + 1; taken = [] };
  };
  limit = limit;
  lost = false;
}

-- the half of an answer lane of this agent, for one item, over which nothing was sent
pub record IsLine (agent : ℕ) (half : Half Answer) : Type 0 where
  pub agent_is : half.agent ≡ agent
  pub unused : half.sent ≡ []
  pub capacity : half.lane.capacity ≡ 1

-- so it is of the agents from 0 on
abbrev pub AreLines : List (Half Answer) → Type 0
AreLines halves = (a : ℕ) (d : Half Answer) → a < length halves → IsLine a (slice_index_or halves a d)

-- a crew of the given number of agents over a keeper, before the first request. Each agent has the
-- lane on which it asks, and the one on which the collector answers it. At most `requests_waiting`
-- requests wait, and at most 1 answer to an agent
pub record IsOpened {B : Type 0} (keeper : Keeper B) (start : B) (agents : ℕ) (crew : List Agent)
    (desk : Desk B) : Type 0 where
  pub start_is : desk.start ≡ start
  pub book_is : desk.book ≡ start
  pub taken : (desk.requests.taken ≡ []) × (desk.behind ≡ [])
  pub capacity : desk.requests.lane.capacity ≡ requests_waiting
  pub count : length desk.answers ≡ agents
  pub lines : AreLines desk.answers
  pub crew_is : crew
      ≡ map (opened_agent (keeper.rules start).limits.requests desk.requests.lane) desk.answers
  pub missed : desk.missed ≡ 0
  pub begun : desk.failed ≡ false
  pub kept : IsDesk keeper desk

-- such a crew over a book that is empty
pub record IsOpenedEmpty (limits : Limits) (agents : ℕ) (crew : List Agent)
    (desk : Desk Book) : Type 0 where
  pub limits_are : desk.book.limits ≡ limits
  pub empty : Represents desk.start []
  pub opened : IsOpened book_keeper desk.start agents crew desk
