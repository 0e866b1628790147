-- Writing the remaining groups completes the text.
use Rattle.std.specs.List.{flat_map}
use Rattle.dsn_outcome.specs.Outcomes.{outcomes_left}
use Rattle.dsn_report.specs.inner.LineWriter.{Wrote}
use Rattle.dsn_report.specs.DeliveryStatus.{recipient_group}
use Rattle.dsn_report.proofs.notice_lines.write_groups.Given as goal

abbrev pub invariant-loop-outcome : goal.invariant-loop-outcome
invariant-loop-outcome g l =
    (end : _)
    → Wrote g.W.Drain l.lines end (flat_map recipient_group (outcomes_left l.outcome-iterator))
    → Wrote g.W.Drain l.initial.lines end (flat_map recipient_group l.letter.outcomes)
