-- Uses: how much a port over a socket gives that has a given number of uses left.
use Rattle.std.specs.Prelude.{◌≡◌, ℕ, ◌≤◌, ◌⊎◌, Bool, true, false, List, length, filter, None}
use Rattle.std.specs.List.{list_any}
use Rattle.dsn_crew.specs.agents.Port.{Given, connection, done, failed}
use Rattle.dsn_crew.specs.declared.agents.port.Port.{Ghosts as Port}

-- whether an answer uses the port up by one, and whether it says that the port is done
abbrev pub is_use : Given → Bool
is_use connection = true
is_use done = false
is_use failed = true

abbrev pub is_done : Given → Bool
is_done connection = false
is_done done = true
is_done failed = false

-- how many uses are in what a port gave
abbrev pub uses_in : List Given → ℕ
uses_in given = length (filter is_use given)

-- what a port with this number of uses may give: no more than these. It is done only once it gave
-- as many, or if its watch may end the run before
pub record IsWithin (may_end : Type 0) (uses : ℕ) (given : List Given) : Type 0 where
  pub few : uses_in given ≤ uses
  pub used_up : list_any is_done given ≡ true → (uses_in given ≡ uses) ⊎ may_end

-- a port over a socket, of which only its uses are seen: it doesn't expose its connections. The
-- contract of `serve` speaks of these, one for each agent, since its ports are private
abbrev pub socket_port : Type 0 → Port ℕ (Unit {0})
socket_port may_end = record {
  conns = λ uses. None;
  may_give = λ uses. IsWithin may_end uses;
  may_be_asked = λ uses. Unit {0};
}
