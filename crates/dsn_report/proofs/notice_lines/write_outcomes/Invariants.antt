-- Writing the remaining outcomes completes the text.
use Rattle.std.specs.List.{flat_map}
use Rattle.dsn_outcome.specs.Outcomes.{outcomes_left}
use Rattle.dsn_report.specs.inner.LineWriter.{Wrote}
use Rattle.dsn_report.specs.Notice.{outcome_lines}
use Rattle.dsn_report.proofs.notice_lines.write_outcomes.Given as goal

abbrev pub invariant-loop-outcome : goal.invariant-loop-outcome
invariant-loop-outcome g l =
    (end : _)
    → Wrote g.W.Drain l.lines end (flat_map (outcome_lines l.letter.draft.wording l.explained) (outcomes_left l.outcome-iterator))
    → Wrote g.W.Drain l.initial.lines end (flat_map (outcome_lines l.letter.draft.wording l.explained) l.letter.outcomes)
