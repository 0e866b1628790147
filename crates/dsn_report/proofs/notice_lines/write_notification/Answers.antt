use Rattle.std.proofs.Common.{[], ◌∷◌, codes, refl}
use Rattle.dsn_report.proofs.BlockLemmas.{block-empty, block-line, block-none}
use Rattle.dsn_report.proofs.LineWriterLemmas.{Wrote-as, Wrote-then}
use Rattle.dsn_report.specs.Notice.{notification, part_header, preface_of}
use Rattle.dsn_report.proofs.notice_lines.write_notification.Goals as goal

pub returns : goal.returns
unfolding notification part_header preface_of
returns g c =
    let fields = c.block.ensures _
    (block-empty (block-line (codes "--") (c.args.boundary.now ∷ []) refl
    (block-line (codes "Content-Description: ") (codes "Notification" ∷ []) refl
    (block-line (codes "Content-Type: ") (codes "text/plain; charset=" ∷ c.args.preface.charset.now ∷ []) refl block-none)))) in
    let header = Wrote-then (Wrote-then fields c.write_encoding.ensures) (c.block-2.ensures _ (block-empty block-none)) in
    let body = Wrote-then c.write_preface.ensures (Wrote-then (c.block-3.ensures _ (block-empty block-none)) c.write_outcomes.ensures) in
    Wrote-as (rw (c.requires.charset_is, c.requires.eight_bit_is, c.requires.explained_is) refl) (Wrote-then header body)
