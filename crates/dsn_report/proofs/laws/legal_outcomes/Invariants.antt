-- If the remaining outcomes are legal, all are.
use Rattle.std.specs.Prelude.{All}
use Rattle.dsn_outcome.specs.Outcome.{IsLegalOutcome}
use Rattle.dsn_outcome.specs.Outcomes.{outcomes_left}
use Rattle.dsn_report.proofs.laws.legal_outcomes.Given as goal

abbrev pub invariant-loop-outcome : goal.invariant-loop-outcome
invariant-loop-outcome l = All IsLegalOutcome (outcomes_left l.outcome-iterator) → All IsLegalOutcome l.letter.outcomes
