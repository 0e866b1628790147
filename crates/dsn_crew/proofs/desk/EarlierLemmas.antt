-- Histories that a run continues, and what they answer to its agents.
use Rattle.std.proofs.Common.{◌≡◌, ℕ, ◌<◌, List, [], length, refl, ap, arith}
use Rattle.dsn_book.specs.Release.{Rules, history_under}
use Rattle.dsn_book.proofs.ReleaseLemmas.{answered_length}
use Rattle.dsn_crew.specs.lane.Lane.{most_agents}
use Rattle.dsn_outcome.specs.Agents.{from_agent}
use Rattle.dsn_outcome.specs.History.{Exchange, answers_after, answers_to}
use Rattle.dsn_outcome.specs.Request.{Request}
use Rattle.dsn_crew.specs.KeeperHistory.{IsEarlier}

-- an agent of the run is answered as often as it asked
pub answered_as_asked : (rules : Rules) (before : List Exchange) (agent : ℕ) (requests : List Request) → IsEarlier before → agent < most_agents → length (answers_to agent (history_under rules before requests)) ≡ length (from_agent (λ (r : Request). r.agent) agent requests)
answered_as_asked rules before agent requests earlier few =
    let none = ap length (earlier agent few) in
    let all = answered_length agent few rules before requests in omega (arith, none, all)

-- nothing is answered in no history
pub none_earlier : IsEarlier []
unfolding answers_after answers_to
none_earlier agent few = refl
