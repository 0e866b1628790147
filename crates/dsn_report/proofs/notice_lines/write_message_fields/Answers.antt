use Rattle.std.proofs.Common.{◌≡◌, [], ◌∷◌, codes, rules, refl}
use Rattle.std.specs.Option.{option_copied}
use Rattle.dsn_text.specs.Extension.{lines_ended_by_lf}
use Rattle.dsn_text.specs.Stamp.{date_text}
use Rattle.dsn_report.proofs.BlockLemmas.{block-line, block-none}
use Rattle.dsn_report.proofs.LineWriterLemmas.{Wrote-as, Wrote-same, Wrote-then}
use Rattle.dsn_report.specs.DeliveryStatus.{per_message_fields}
use Rattle.dsn_report.proofs.notice_lines.write_message_fields.Goals as goal

pub returns : goal.returns
unfolding per_message_fields
returns g c =
    let id : option_copied c.map.result ≡ c.args.letter.now.draft.envelope_id = search rules in
    let host : c.host.result.now ≡ c.args.site.now.host = c.host.ensures.same in
    let date : c.date.result ≡ date_text c.args.letter.now.draft.arrival = search rules in
    let own : c.extensions.result.now ≡ c.args.letter.now.draft.extensions = search rules in
    let extensions = Wrote-same lines_ended_by_lf c.args.letter.now.draft.extensions own c.write_extensions.ensures in
    let block = c.block.ensures _
    (block-line (codes "Reporting-MTA: dns; ") (c.host.result.now ∷ []) refl
    (block-line (codes "Arrival-Date: ") (c.date.result ∷ []) refl block-none)) in
    Wrote-as (rw (id, host, date) refl) (Wrote-then c.write_if_any.ensures (Wrote-then block extensions))
