use Rattle.std.proofs.Common.{sym, ap}
use Rattle.std.specs.List.{flat_map}
use Rattle.dsn_report.proofs.BlockLemmas.{block-empty, block-none}
use Rattle.dsn_report.proofs.LineWriterLemmas.{Wrote-as, Wrote-none, Wrote-then}
use Rattle.dsn_report.specs.DeliveryStatus.{recipient_group}
use Rattle.dsn_report.proofs.notice_lines.write_groups.Goals as goal

pub loop-outcome-preserved : goal.loop-outcome-preserved
loop-outcome-preserved g c = λ end later.
    let empty = c.block.ensures _ (block-empty block-none) in
    c.loop-outcome.invariant end
    (Wrote-as (sym (ap (flat_map recipient_group) c.in-Some.ensures.steps))
    (Wrote-then (Wrote-then empty c.write_recipient_fields.ensures) later))

pub returns : goal.returns
returns g c =
    c.loop-outcome.invariant _
    (Wrote-as (sym (ap (flat_map recipient_group) c.in-None.ensures.steps.0)) (Wrote-none c.loop-outcome.lines))
