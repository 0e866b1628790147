use Rattle.std.proofs.Common.{[], ◌∷◌, refl}
use Rattle.dsn_report.proofs.BlockLemmas.{block-line, block-none, plain-line}
use Rattle.dsn_report.proofs.LineWriterLemmas.{Wrote-as, Wrote-none}
use Rattle.dsn_report.specs.DeliveryStatus.{line_if_any}
use Rattle.dsn_report.proofs.notice_lines.write_date_if_any.Goals as goal

pub returns-in-Some : goal.returns-in-Some
unfolding line_if_any
returns-in-Some g c =
    let plain = plain-line c.args.name.now c.date.result c.requires in
    Wrote-as (rw (c.in-Some.is, c.date.ensures) refl)
    (c.block.ensures _ (block-line c.args.name.now (c.date.result ∷ []) plain block-none))

pub returns-in_default : goal.returns-in_default
unfolding line_if_any
returns-in_default g c = Wrote-as (rw c.in_default.is refl) (Wrote-none c.args.lines.now)
