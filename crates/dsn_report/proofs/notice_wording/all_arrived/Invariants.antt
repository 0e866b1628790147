-- The message arrived at the recipients so far.
use Rattle.std.proofs.Common.{◌≡◌}
use Rattle.std.specs.List.{list_all}
use Rattle.dsn_outcome.specs.Outcomes.{outcomes_left}
use Rattle.dsn_report.specs.Notice.{has_arrived}
use Rattle.dsn_report.proofs.notice_wording.all_arrived.Given as goal

abbrev pub invariant-loop-outcome : goal.invariant-loop-outcome
invariant-loop-outcome l =
    list_all (λ outcome. has_arrived outcome.action) l.letter.outcomes ≡ list_all (λ outcome. has_arrived outcome.action) (outcomes_left l.outcome-iterator)
