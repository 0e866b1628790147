use Rattle.std.proofs.Common.{[], ◌∷◌, codes, refl}
use Rattle.dsn_report.proofs.BlockLemmas.{block-empty, block-line, block-none}
use Rattle.dsn_report.proofs.LineWriterLemmas.{Wrote-then}
use Rattle.dsn_report.specs.Notice.{part_header}
use Rattle.dsn_report.proofs.notice_lines.write_part_header.Goals as goal

pub returns : goal.returns
unfolding part_header
returns g c =
    let fields = c.block.ensures _
    (block-empty (block-line (codes "--") (c.args.boundary.now ∷ []) refl
    (block-line (codes "Content-Description: ") (c.args.description.now ∷ []) refl
    (block-line (codes "Content-Type: ") (c.args.content_type.now ∷ []) refl block-none)))) in
    Wrote-then (Wrote-then fields c.write_encoding.ensures) (c.block-2.ensures _ (block-empty block-none))
