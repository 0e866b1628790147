-- Rooms: what a run of a crew has before its first thread is started.
use Rattle.std.specs.Prelude.{◌≡◌, ℕ, ◌≤◌, false, [], vec_capacity}
use Rattle.dsn_book.specs.declared.keeper.Keeper.{Ghosts as Keeper}
use Rattle.dsn_crew.specs.desk.Open.{IsOpened}
use Rattle.dsn_crew.specs.declared.crew_memory.CrewMemory.{CrewMemory}
use Rattle.dsn_crew.specs.declared.agent_memory.AgentMemory.{AgentMemory}

-- room for the results of the given number of agents
pub record AreSlots {P S : Type 0} (agents : ℕ) (slots : AgentMemory P S) : Type 0 where
  pub handles : (slots.handles.items ≡ []) × (agents ≤ vec_capacity slots.handles)
  pub ends : (slots.ends.items ≡ []) × (agents ≤ vec_capacity slots.ends)
  pub lines : (slots.lines.items ≡ []) × (agents ≤ vec_capacity slots.lines)
  pub finished : (slots.finished.items ≡ []) × (agents ≤ vec_capacity slots.finished)

-- a crew of the given number of agents, with room for each. The two halves are of a lane in which
-- the given number of letters may wait, and over which none was sent
pub record IsRoom {B P S : Type 0} (keeper : Keeper B) (start : B) (agents letters : ℕ)
    (room : CrewMemory P B S) : Type 0 where
  pub opened : IsOpened keeper start agents room.agents.items room.desk
  pub source : room.source ≡ record { lane = room.sink.lane; letters = []; marked = false }
  pub sink : room.sink.letters ≡ []
  pub waiting : room.sink.lane.capacity ≡ letters
  pub slots : AreSlots agents room.slots
