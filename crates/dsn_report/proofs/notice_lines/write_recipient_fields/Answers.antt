use Rattle.std.proofs.Common.{◌≡◌, [], ◌∷◌, codes, rules, refl, append_assoc}
use Rattle.std.specs.Option.{option_copied}
use Rattle.std.specs.Prelude.{option_map}
use Rattle.dsn_text.specs.Action.{action_word}
use Rattle.dsn_text.specs.Extension.{lines_ended_by_lf}
use Rattle.dsn_text.specs.Stamp.{date_text}
use Rattle.dsn_report.proofs.BlockLemmas.{block-line, block-none}
use Rattle.dsn_report.proofs.LineWriterLemmas.{Wrote-as, Wrote-same, Wrote-then}
use Rattle.dsn_report.specs.DeliveryStatus.{line_if_any, per_recipient_fields}
use Rattle.dsn_report.proofs.notice_lines.write_recipient_fields.Goals as goal

pub returns : goal.returns
unfolding per_recipient_fields
returns g c =
    let action : c.action_word.result.now ≡ action_word c.args.outcome.now.action = search rules in
    let status : c.bytes.result.now ≡ c.args.outcome.now.status = search rules in
    let mta : option_copied c.mta.result ≡ c.args.outcome.now.mta = search rules in
    let last = Wrote-same (λ moment. line_if_any (codes "Last-Attempt-Date: ") (option_map date_text moment)) c.args.outcome.now.last_attempt (search rules) c.write_date_if_any.ensures in
    let until = Wrote-same (λ moment. line_if_any (codes "Will-Retry-Until: ") (option_map date_text moment)) c.args.outcome.now.retry_until (search rules) c.write_date_if_any-2.ensures in
    let extensions = Wrote-same lines_ended_by_lf c.args.outcome.now.extensions c.extensions.ensures.same c.write_extensions.ensures in
    let block = c.block.ensures _
    (block-line (codes "Action: ") (c.action_word.result.now ∷ []) refl
    (block-line (codes "Status: ") (c.bytes.result.now ∷ []) refl block-none)) in
    Wrote-as (simp (append_assoc, action, status, mta) refl)
    (Wrote-then c.write_original_recipient.ensures (Wrote-then c.write_final_recipient.ensures
    (Wrote-then block (Wrote-then c.write_if_any.ensures
    (Wrote-then c.write_diagnostic.ensures (Wrote-then last (Wrote-then until extensions)))))))
