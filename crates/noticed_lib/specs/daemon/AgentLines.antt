-- Agent lines: what the notes of the daemon's run say (this project's profile).
use Rattle.std.specs.Prelude.{ℕ, suc, Bool, List, [], ◌∷◌, ◌++◌, codes, decimal, Option, Some, None, if◌then◌else◌}
use Rattle.std.specs.List.{list_any}
use Rattle.dsn_text.specs.FaultCode.{socket_code}
use Rattle.dsn_book.specs.declared.open_line.OpenLine.{OpenLine}
use Rattle.dsn_crew.specs.Crew.{Account}
use Rattle.dsn_crew.specs.declared.agents.agent_line.AgentLine.{AgentLine}
use Rattle.dsn_outcome.specs.Letter.{Letter}
use Rattle.dsn_notes.specs.Notes.{end_lines, fault_line, unsent_lines}

-- the line of an agent: how many requests it made, how many connections it served, and how many of
-- them ended with a fault
unfoldable pub agent_line : ℕ → AgentLine → List ℕ
agent_line agent line =
    codes "agent " ++ decimal agent ++ codes " requests " ++ decimal line.requests
    ++ codes " connections " ++ decimal line.connections ++ codes " faults "
    ++ decimal line.faults ++ codes "\n"

-- the lines of agents, from this one on
unfoldable pub agent_lines_from : ℕ → List AgentLine → List ℕ
agent_lines_from agent [] = []
agent_lines_from agent (line ∷ rest) = agent_line agent line ++ agent_lines_from (suc agent) rest

abbrev pub agent_lines : List AgentLine → List ℕ
agent_lines lines = agent_lines_from 0 lines

-- the number of the fault of the ports, where any of them failed
abbrev pub port_fault : List AgentLine → Option ℕ
port_fault lines = if list_any (λ line. line.port_failed) lines then Some socket_code else None

-- the lines of a run of these agents that ended well: theirs, and then how it ended
unfoldable pub run_lines : List AgentLine → Bool → List Letter → Option (List OpenLine) → List ℕ
run_lines agents whole unsent logs =
    agent_lines agents ++ end_lines (port_fault agents) whole unsent logs

-- and so those of an account
abbrev pub account_lines : {W B : Type 0} → Account W B → Option (List OpenLine) → List ℕ
account_lines account logs = run_lines account.agents account.whole account.unsent logs

-- the lines of a fault with this number, and of the letters that were not written
unfoldable pub number_lines : ℕ → List Letter → List ℕ
number_lines code unsent = fault_line code ++ unsent_lines unsent
