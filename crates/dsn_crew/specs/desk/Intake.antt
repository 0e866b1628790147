-- Intakes: what the collector took from the request lane.
use Rattle.std.specs.Prelude.{ℕ, Bool, true, false, List, ◌++◌, ◌∷◌, [], length, filter}
use Rattle.dsn_crew.specs.lane.Halves.{Out}
use Rattle.dsn_outcome.specs.Request.{Request, Body, Append, Flush, Discard, Forget, Bye}

-- how many requests are taken together at most: one of each agent of the largest crew
abbrev pub most_together : ℕ
most_together = 16

-- how many requests a collector carries out at most
abbrev pub most_taken : ℕ
most_taken = 4294967295

abbrev pub is_goodbye : Body → Bool
is_goodbye (Append id outcome) = false
is_goodbye (Flush key draft) = false
is_goodbye (Discard key) = false
is_goodbye (Forget key) = false
is_goodbye Bye = true

-- how many of these requests are goodbyes
abbrev pub goodbyes : List Request → ℕ
goodbyes requests = length (filter (λ (request : Request). is_goodbye request.body) requests)

abbrev pub taken_request : Out Request → Request → Out Request
taken_request out request =
    record {
      lane = out.lane;
      first = out.first;
      past = out.past;
      taken = out.taken ++ request ∷ [];
    }
