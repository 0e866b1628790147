-- The letters before the index are well formed.
use Rattle.std.proofs.Common.{ℕ, ◌<◌, get_or}
use Rattle.dsn_outcome.specs.Letter.{Letter}
use Rattle.dsn_report.specs.WellFormed.{IsWellFormed}
use Rattle.dsn_report.proofs.laws.well_formed_letters.Given as goal

abbrev pub invariant-loop-letter : goal.invariant-loop-letter
invariant-loop-letter l = (k : ℕ) (d : Letter) → k < l.letter-index → IsWellFormed l.site (get_or l.letters k d)
