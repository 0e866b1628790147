use Rattle.std.proofs.Common.{sym, subst}
use Rattle.std.specs.Prelude.{All}
use Rattle.std.proofs.lemmas.List.Elements.{All-cons}
use Rattle.dsn_outcome.specs.Outcome.{IsLegalOutcome}
use Rattle.dsn_outcome.specs.Outcomes.{outcomes_left}
use Rattle.dsn_report.proofs.laws.legal_outcomes.Goals as goal

pub loop-outcome-preserved : goal.loop-outcome-preserved
loop-outcome-preserved c = λ rest.
    c.loop-outcome.invariant
    (subst (All IsLegalOutcome) (sym c.in-Some.ensures.steps)
    (All-cons IsLegalOutcome c.in-Some.outcome.now (outcomes_left c.next.new.self) c.service.ensures.legal rest))
