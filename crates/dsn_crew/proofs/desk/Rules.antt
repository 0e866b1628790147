-- Which lemmas the tactics use, by what they prove with them.
use Rattle.dsn_crew.proofs.desk.CloseLemmas.{all_of_crew, kept_all, room_of_one_lane}
use Rattle.dsn_crew.proofs.desk.RunLemmas.{run_none, run_then, took_fault, took_lost, took_none}

-- a crew that is closed, an agent's halves after another's
pub ruleset closing = (all_of_crew, kept_all, room_of_one_lane)

-- a request that is taken, or none
pub ruleset takes = (took_fault, took_lost, took_none)

-- a run of the desk, request after request
pub ruleset runs = (run_none, run_then)
