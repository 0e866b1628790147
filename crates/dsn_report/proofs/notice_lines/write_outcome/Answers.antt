use Rattle.std.proofs.Common.{◌≡◌, rules, refl}
use Rattle.std.specs.Option.{option_copied}
use Rattle.dsn_report.proofs.LineWriterLemmas.{Wrote-as, Wrote-then}
use Rattle.dsn_report.specs.Notice.{explanation, origin_told, outcome_lines}
use Rattle.dsn_report.proofs.notice_lines.write_outcome.Goals as goal

pub returns-in-ByService : goal.returns-in-ByService
unfolding outcome_lines explanation
returns-in-ByService g c =
    let origin : option_copied c.origin_told.result ≡ origin_told c.args.wording c.args.outcome.now = search rules in
    let reason : option_copied c.reason.result ≡ c.args.outcome.now.reason = search rules in
    Wrote-as (rw (origin, reason, c.in-ByService.is) refl) (Wrote-then c.write_action.ensures c.write_if_any.ensures)

pub returns-in-ByOutcome : goal.returns-in-ByOutcome
unfolding outcome_lines
returns-in-ByOutcome g c =
    let origin : option_copied c.origin_told.result ≡ origin_told c.args.wording c.args.outcome.now = search rules in
    Wrote-as (rw (origin, c.in-ByOutcome.is) refl) (Wrote-then c.write_action.ensures c.write_explanation.ensures)
