use Rattle.std.proofs.Common.{◌≡◌, [], codes, rules, refl}
use Rattle.std.specs.Option.{option_copied}
use Rattle.dsn_report.proofs.LineWriterLemmas.{Wrote-same}
use Rattle.dsn_report.specs.DeliveryStatus.{line_if_any, typed, usual_address_type}
use Rattle.dsn_report.proofs.notice_lines.write_original_recipient.Goals as goal

pub returns : goal.returns
returns g c =
    let kind : option_copied c.original_type.result ≡ c.args.outcome.now.original_type = search rules in
    let value : option_copied c.original.result ≡ c.args.outcome.now.original = search rules in
    let written = Wrote-same (λ kind. line_if_any (typed (codes "Original-Recipient: ") usual_address_type kind) (option_copied c.original.result)) c.args.outcome.now.original_type kind (c.write_typed_if_any.ensures usual_address_type refl) in
    Wrote-same (λ value. line_if_any (typed (codes "Original-Recipient: ") usual_address_type c.args.outcome.now.original_type) value) c.args.outcome.now.original value written
