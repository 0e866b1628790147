-- Steps: what each step on a lane does to what the halves know.
use Rattle.std.specs.Prelude.{suc, [], ◌∷◌, ◌++◌, List, ◌≡◌, ℕ, ◌<◌, length, ◌⊎◌, ◌≤◌}
use Rattle.dsn_crew.specs.declared.lane.lane_knowledge.LaneKnowledge.TheVariants.{Sends, Takes, Spent}
use Rattle.dsn_crew.specs.declared.lane.lane_knowledge.LaneKnowledge.{LaneKnowledge}
use Rattle.dsn_crew.specs.declared.lane.lane_knowledge.Sending.{Sending}
use Rattle.dsn_crew.specs.declared.lane.lane_knowledge.Taking.{Taking}
use Rattle.dsn_crew.specs.lane.Lane.{back_from, IsNumbered}
use Rattle.dsn_outcome.specs.Agents.{from_agent}

module _ {T : Type 0} where
  -- counting room: the lane has room for one item more, as long as no agent has a half
  abbrev pub after_room : LaneKnowledge T → LaneKnowledge T
  after_room (Takes capacity known) = Takes (suc capacity) known
  after_room (Sends capacity half) = Sends capacity half
  after_room Spent = Spent

  -- splitting off an agent's pass: the next agent gets a half, which has sent nothing
  abbrev pub after_split : LaneKnowledge T → LaneKnowledge T
  after_split (Takes capacity known) = Takes capacity
      (record { made = suc known.made; taken = known.taken; back = known.back })
  after_split (Sends capacity half) = Sends capacity half
  after_split Spent = Spent

  abbrev pub split_off : LaneKnowledge T → LaneKnowledge T
  split_off (Takes capacity known) = Sends capacity (record { agent = known.made; sent = [] })
  split_off (Sends capacity half) = Spent
  split_off Spent = Spent

  -- a send that adds
  abbrev pub after_send : LaneKnowledge T → T → LaneKnowledge T
  after_send (Sends capacity half) item = Sends capacity
      (record { agent = half.agent; sent = half.sent ++ item ∷ [] })
  after_send (Takes capacity known) item = Takes capacity known
  after_send Spent item = Spent

  -- a receive that takes
  abbrev pub after_take : LaneKnowledge T → T → LaneKnowledge T
  after_take (Takes capacity known) item = Takes capacity
      (record { made = known.made; taken = known.taken ++ item ∷ []; back = known.back })
  after_take (Sends capacity half) item = Sends capacity half
  after_take Spent item = Spent

  -- what the receiving half knows with these halves taken back
  abbrev pub known_after : Taking T → List (Sending T) → Taking T
  known_after known
      halves = record { made = known.made; taken = known.taken; back = known.back ++ halves }

  -- joining a pass: the receiving half takes a sending half back
  abbrev pub after_join : LaneKnowledge T → LaneKnowledge T → LaneKnowledge T
  after_join (Takes capacity known) (Sends most half) = Takes capacity (known_after known (half ∷ []))
  after_join (Takes capacity known) other = Takes capacity known
  after_join (Sends capacity half) other = Sends capacity half
  after_join Spent other = Spent

  module _ (agent number : T → ℕ) where
    -- what a receive reports of the item that it takes. Its agent has a half, which did not come
    -- back without having sent anything. Its number is how many items of its agent were taken
    -- before
    abbrev pub IsNext : LaneKnowledge T → T → Type 0
    IsNext (Takes capacity known) item =
        (agent item < known.made)
        × (number item ≡ length (from_agent agent (agent item) known.taken))
        × (back_from (agent item) known ≡ record { agent = agent item; sent = [] } ∷ [] → ⊥)
    IsNext (Sends capacity half) item = Unit {0}
    IsNext Spent item = Unit {0}

    -- reading the joined pass: what the lane has accepted, where `waiting` is what it holds, which
    -- is within its capacity
    pub record Settles (capacity : ℕ) (known : Taking T) (waiting : List T) : Type 0 where
      pub within : length waiting ≤ capacity
      pub others : (a : ℕ) → known.made ≤ a
          → (from_agent agent a (known.taken ++ waiting) ≡ []) × (back_from a known ≡ [])
      pub back : (a : ℕ)
          → (back_from a known ≡ [])
          ⊎ (back_from a known
          ≡ record { agent = a; sent = from_agent agent a (known.taken ++ waiting) } ∷ [])
      pub numbered : (a : ℕ) → IsNumbered number (from_agent agent a (known.taken ++ waiting))

    abbrev pub IsLaneSettled : LaneKnowledge T → List T → Type 0
    IsLaneSettled (Takes capacity known) waiting = Settles capacity known waiting
    IsLaneSettled (Sends capacity half) waiting = Unit {0}
    IsLaneSettled Spent waiting = Unit {0}
