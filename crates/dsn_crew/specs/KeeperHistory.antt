-- What a keeper models before a run and after it: a history, and the requests kept behind it.
use Rattle.std.specs.Prelude.{◌≡◌, ℕ, ◌<◌, List, [], ◌≤◌, length, Option, Some, None, ◌++◌, All}
use Rattle.dsn_book.specs.declared.keeper.Keeper.{Ghosts as Keeper}
use Rattle.dsn_book.specs.declared.not_kept.NotKept.{NotKept}
use Rattle.dsn_crew.specs.lane.Lane.{most_agents, IsNumbered}
use Rattle.dsn_outcome.specs.Agents.{from_agent}
use Rattle.dsn_outcome.specs.History.{Exchange, answers_to}
use Rattle.dsn_outcome.specs.Request.{Request}

-- a history that a run may begin with: nothing in it is answered to an agent of the run
abbrev pub IsEarlier : List Exchange → Type 0
IsEarlier before = (agent : ℕ) → agent < most_agents → answers_to agent before ≡ []

-- the keeper models such a history, and no kept request waits
abbrev pub BeginsWith : {B : Type 0} → Keeper B → B → List Exchange → Type 0
BeginsWith keeper start before = keeper.has start before [] × IsEarlier before

-- A keeper models a history, and has kept these requests behind it. If they were not kept, it
-- modelled the history until it refused them, and is what its refusal says; at least one was refused
abbrev pub StandsOrRefused :
    {B : Type 0} → Keeper B → Option NotKept → List Request → List Exchange → B → Type 0
StandsOrRefused keeper None behind exchanges book = keeper.has book exchanges behind
StandsOrRefused {B} keeper (Some why) behind exchanges book =
    (was : B) × keeper.has was exchanges [] × keeper.refuses was behind why book
    × (1 ≤ length behind)

-- these requests are the next ones of the given number of agents, behind those that were carried out
pub record AreNextOf (agents : ℕ) (taken requests : List Request) : Type 0 where
  pub from : All (λ (request : Request). request.agent < agents) requests
  pub numbered : (agent : ℕ)
      → IsNumbered (λ (request : Request). request.number)
      (from_agent (λ (request : Request). request.agent) agent (taken ++ requests))
