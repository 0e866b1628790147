use Rattle.std.proofs.Common.{[], ◌∷◌, codes, refl}
use Rattle.dsn_report.proofs.BlockLemmas.{block-line, block-none}
use Rattle.dsn_report.proofs.LineWriterLemmas.{Wrote-as, Wrote-none}
use Rattle.dsn_report.specs.Notice.{reply_lines}
use Rattle.dsn_report.proofs.notice_lines.write_reply.Goals as goal

pub returns-in-Some : goal.returns-in-Some
unfolding reply_lines
returns-in-Some g c =
    Wrote-as (rw (c.in-Some.is, c.speaker.ensures) refl)
    (c.block.ensures _
    (block-line (codes "    ") (c.speaker.result.now ∷ codes " said:" ∷ []) refl
    (block-line (codes "      ") (c.in-Some.reply.now ∷ []) refl block-none)))

pub returns-in_default : goal.returns-in_default
unfolding reply_lines
returns-in_default g c = Wrote-as (rw c.in_default.is refl) (Wrote-none c.args.lines.now)
