-- Agents: the items that belong to one agent.
use Rattle.std.specs.Prelude.{ℕ, ◌==◌, List, filter}

-- the items of one agent, in order; the caller chooses the items and how an item names its agent
abbrev pub from_agent : {A : Type 0} → (A → ℕ) → ℕ → List A → List A
from_agent agent_of agent items = filter (λ item. agent_of item == agent) items
