-- Lanes: the rule that a lane keeps between any two steps, whichever threads take them.
use Rattle.std.specs.Prelude.{◌≡◌, ◌⊎◌, ℕ, ◌<◌, ◌≤◌, List, [], ◌∷◌, ◌++◌, length, Some}
use Rattle.std.specs.List.{slice_get}
use mathlib.Core.Option.{some}
use lib.ListN.{get_elem?}
use Rattle.dsn_outcome.specs.Agents.{from_agent}
use Rattle.dsn_crew.specs.declared.lane.lane_knowledge.Sending.{Sending}
use Rattle.dsn_crew.specs.declared.lane.lane_knowledge.Taking.{Taking}
use Rattle.dsn_crew.specs.declared.lane.lane_knowledge.LaneKnowledge.{LaneKnowledge}
use Rattle.dsn_crew.specs.declared.lane.lane_knowledge.LaneKnowledge.TheVariants.{Sends, Takes, Spent}

-- how many agents a crew has at most
abbrev pub most_agents : ℕ
most_agents = 16

-- how many items a lane may hold at most, as it is opened
abbrev pub most_waiting : ℕ
most_waiting = 16384

-- how many items a half may send at most: they are numbered from 0, and counted in four bytes
abbrev pub most_sent : ℕ
most_sent = 4294967295

-- each item's number is its place in the list, from 0
abbrev pub IsNumbered : {T : Type 0} → (T → ℕ) → List T → Type 0
IsNumbered {T} number items =
    (place : ℕ) (item : T) → slice_get items place ≡ Some item → number item ≡ place

module _ {T : Type 0} where
  -- what the halves of one agent knew that the receiving half has taken back
  abbrev pub back_from : ℕ → Taking T → List (Sending T)
  back_from agent receiver = from_agent (λ (half : Sending T). half.agent) agent receiver.back

  -- the knowledge of a pass is true. `capacity` is how many items the lane holds at most.
  -- `receiver` is what the receiving half knows, and `reader` its pass. `sent` is what each agent
  -- has sent, and `seat` the pass of its half
  abbrev pub Knows : ℕ → Taking T → ℕ → (ℕ → List T) → (ℕ → ℕ) → ℕ → LaneKnowledge T → Type 0
  Knows capacity receiver reader sent seat pass (Sends most half) =
      (most ≡ capacity) × (seat half.agent ≡ pass) × (sent half.agent ≡ half.sent)
      × (half.agent < receiver.made) × (back_from half.agent receiver ≡ [])
  Knows capacity receiver reader sent seat pass (Takes most known) = (most ≡ capacity)
      × (reader ≡ pass) × (receiver ≡ known)
  Knows capacity receiver reader sent seat pass Spent = Unit {0}

  -- `waiting` is what the lane holds, oldest first, and `tokens` the knowledge of its passes
  pub record IsLane (agent number : T → ℕ) (waiting : List T)
      (tokens : List (LaneKnowledge T)) : Type 0 where
    pub capacity : ℕ
    pub receiver : Taking T
    pub reader : ℕ
    pub sent : ℕ → List T
    pub seat : ℕ → ℕ
    -- what waits is never more than the capacity
    pub within : length waiting ≤ capacity
    -- accepted is taken followed by what waits: of each agent, it is what that agent sent
    pub accepted : (a : ℕ) → from_agent agent a (receiver.taken ++ waiting) ≡ sent a
    -- what an agent sent is numbered from 0
    pub numbered : (a : ℕ) → IsNumbered number (sent a)
    -- an agent with no half has sent nothing, and none of its came back
    pub others : (a : ℕ) → receiver.made ≤ a → (sent a ≡ []) × (back_from a receiver ≡ [])
    -- of each agent no half has come back, or one, that knew all that the agent sent
    pub back : (a : ℕ)
        → (back_from a receiver ≡ [])
        ⊎ (back_from a receiver ≡ record { agent = a; sent = sent a } ∷ [])
    -- the knowledge of each pass is true
    pub passes : (pass : ℕ) (token : LaneKnowledge T) → get_elem? tokens pass ≡ some token
        → Knows capacity receiver reader sent seat pass token
