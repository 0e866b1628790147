use Rattle.std.proofs.Common.{[], ◌∷◌, codes, refl}
use Rattle.dsn_report.proofs.BlockLemmas.{block-empty, block-line, block-none}
use Rattle.dsn_report.proofs.LineWriterLemmas.{Wrote-as, Wrote-then}
use Rattle.dsn_report.specs.DeliveryStatus.{delivery_status}
use Rattle.dsn_report.specs.Notice.{part_header}
use Rattle.dsn_report.proofs.notice_lines.write_delivery_status.Goals as goal

pub returns : goal.returns
unfolding delivery_status part_header
returns g c =
    let block = c.block.ensures _
    (block-empty (block-line (codes "--") (c.args.boundary.now ∷ []) refl
    (block-line (codes "Content-Description: ") (codes "Delivery report" ∷ []) refl
    (block-line (codes "Content-Type: ") (codes "message/delivery-status" ∷ []) refl
    (block-empty block-none))))) in
    Wrote-as refl (Wrote-then block (Wrote-then c.write_message_fields.ensures c.write_groups.ensures))
