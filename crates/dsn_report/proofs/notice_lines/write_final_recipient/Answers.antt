use Rattle.std.proofs.Common.{◌≡◌, [], ◌∷◌, ◌++◌, codes, rules, refl}
use Rattle.std.specs.Option.{option_copied}
use Rattle.dsn_report.proofs.LineWriterLemmas.{Wrote-same}
use Rattle.dsn_report.specs.DeliveryStatus.{line_if_any, typed, usual_address_type}
use Rattle.dsn_report.proofs.notice_lines.write_final_recipient.Goals as goal

pub returns : goal.returns
unfolding line_if_any
returns g c =
    let kind : option_copied c.recipient_type.result ≡ c.args.outcome.now.recipient_type = search rules in
    let value : c.recipient.result.now ≡ c.args.outcome.now.recipient = search rules in
    let written = Wrote-same (λ kind. (typed (codes "Final-Recipient: ") usual_address_type kind ++ c.recipient.result.now) ∷ []) c.args.outcome.now.recipient_type kind (c.write_typed_if_any.ensures usual_address_type refl) in
    Wrote-same (λ value. (typed (codes "Final-Recipient: ") usual_address_type c.args.outcome.now.recipient_type ++ value) ∷ []) c.args.outcome.now.recipient value written
