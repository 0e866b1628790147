-- Limits: their allowed values (this project's profile).
use Rattle.std.specs.Prelude.{ℕ}
use Rattle.std.specs.Int.{IsInRange}
use Rattle.dsn_outcome.specs.History.{Limits}

-- 1 to 65,536 keys, 1 to 1,000 outcomes in a log, and 1 to 1,000,000 requests of an agent
pub record AreLimits (logs entries requests : ℕ) : Type 0 where
  pub logs_bounded : IsInRange 1 65536 logs
  pub entries_bounded : IsInRange 1 1000 entries
  pub requests_bounded : IsInRange 1 1000000 requests

abbrev pub limits_of : ℕ → ℕ → ℕ → Limits
limits_of logs entries requests = record { logs = logs; entries = entries; requests = requests }
