use Rattle.std.proofs.Common.{◌≡◌, [], codes, rules, refl}
use Rattle.std.specs.Option.{option_copied}
use Rattle.dsn_report.proofs.LineWriterLemmas.{Wrote-same}
use Rattle.dsn_report.specs.DeliveryStatus.{line_if_any, typed, usual_diagnostic_type}
use Rattle.dsn_report.proofs.notice_lines.write_diagnostic.Goals as goal

pub returns : goal.returns
returns g c =
    let kind : option_copied c.diagnostic_type.result ≡ c.args.outcome.now.diagnostic_type = search rules in
    let value : option_copied c.diagnostic.result ≡ c.args.outcome.now.diagnostic = search rules in
    let written = Wrote-same (λ kind. line_if_any (typed (codes "Diagnostic-Code: ") usual_diagnostic_type kind) (option_copied c.diagnostic.result)) c.args.outcome.now.diagnostic_type kind (c.write_typed_if_any.ensures usual_diagnostic_type refl) in
    Wrote-same (λ value. line_if_any (typed (codes "Diagnostic-Code: ") usual_diagnostic_type c.args.outcome.now.diagnostic_type) value) c.args.outcome.now.diagnostic value written
