-- Of private parts: the results of the agents' threads, taken together.
use Rattle.std.specs.Prelude.{◌≡◌, Bool, true, false, List, [], ◌∷◌, Option, Some, None, Result, Ok, Err, is_none}
use Rattle.std.specs.List.{list_any}
use Rattle.dsn_crew.specs.agents.Agent.{LaneHalves}
use Rattle.dsn_crew.specs.declared.agents.agent_line.AgentLine.{AgentLine}
use Rattle.dsn_crew.specs.declared.breach.Breach.{Breach}
use Rattle.dsn_crew.specs.declared.breach.Breach.TheVariants.{Unheard, Refused}
use Rattle.dsn_crew.specs.declared.gathered.Gathered.{Gathered}
use Rattle.dsn_crew.specs.inner.PortEnd.{PortEnd}

-- each agent said goodbye, with the line and the halves in its place
abbrev pub AreEnded : List (Option PortEnd) → List AgentLine → List LaneHalves → Type 0
AreEnded [] [] [] = Unit {0}
AreEnded (end ∷ ends) (line ∷ lines) (agent ∷ agents) =
    (end ≡ Some (record { line = line; finished = Some agent })) × AreEnded ends lines agents
AreEnded ends lines agents = ⊥

-- an agent that was started, and lost a lane
abbrev pub has_port_lost : Option PortEnd → Bool
has_port_lost None = false
has_port_lost (Some end) = is_none end.finished

-- an agent that lost a lane comes first; then one that was not started; if there is neither, these
-- are all lines and halves
abbrev pub IsGathered : List (Option PortEnd) → Result Gathered Breach → Type 0
IsGathered ends (Ok gathered) = AreEnded ends gathered.lines.items gathered.agents.items
IsGathered ends (Err (Unheard unheard)) = list_any has_port_lost ends ≡ true
IsGathered ends (Err Refused) =
    (list_any is_none ends ≡ true) × (list_any has_port_lost ends ≡ false)
IsGathered ends (Err breach) = ⊥
