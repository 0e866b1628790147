-- Lines: those of agents, one line more; and those of a run that lists no logs.
use Rattle.std.proofs.Common.{◌≡◌, ℕ, suc, ◌+◌, ◌<◌, ◌≤◌, true, List, [], ◌∷◌, ◌++◌, length, take, get_or, ap, append_assoc, append-nil, add-one, refl, arith}
use Rattle.std.specs.Prelude.{Some}
use Rattle.std.proofs.Math.Seq.{take-suc}
use Rattle.std.proofs.lemmas.List.{length-take-le}
use Rattle.dsn_crew.specs.declared.agents.agent_line.AgentLine.{AgentLine}
use Rattle.dsn_outcome.specs.Letter.{Letter}
use Rattle.dsn_notes.specs.Notes.{end_lines, fault_line, fault_lines, outbox_lines, open_lines, unsent_lines}
use Rattle.noticed_lib.specs.daemon.AgentLines.{agent_line, agent_lines, agent_lines_from, number_lines}

-- one more agent is one more line, at the end
agent_lines_from-more : (agent : ℕ) (lines : List AgentLine) (line : AgentLine) → agent_lines_from agent (lines ++ line ∷ []) ≡ agent_lines_from agent lines ++ agent_line (agent + length lines) line
unfolding agent_lines_from
agent_lines_from-more agent [] line =
    let at : agent + 0 ≡ agent = omega arith in
    rw at (append-nil (agent_line agent line))
agent_lines_from-more agent (first ∷ rest) line =
    let at : agent + suc (length rest) ≡ suc agent + length rest = omega arith in
    let more = agent_lines_from-more (suc agent) rest line in
    rw (more, at) (simp append_assoc)

pub agent_lines-none : [] ≡ agent_lines []
unfolding agent_lines_from
agent_lines-none = refl

pub agent_lines-take-more : (lines : List AgentLine) (i : ℕ) (d : AgentLine) → i < length lines → agent_lines (take i lines) ++ agent_line i (get_or lines i d) ≡ agent_lines (take (i + 1) lines)
agent_lines-take-more lines i d within =
    let short : i ≤ length lines = omega (arith, within) in
    let long : length (take i lines) ≡ i = length-take-le i lines short in
    let from : 0 + i ≡ i = omega arith in
    let more = agent_lines_from-more 0 (take i lines) (get_or lines i d) in
    rw (add-one, take-suc lines i d within, more, long, from) refl

-- a fault and the letters that were not written, and nothing more
pub end_lines-fault : (code : ℕ) (unsent : List Letter) → end_lines (Some code) true unsent (Some []) ≡ number_lines code unsent
unfolding end_lines fault_lines outbox_lines open_lines number_lines
end_lines-fault code unsent = ap (λ text. fault_line code ++ text) (append-nil (unsent_lines unsent))
