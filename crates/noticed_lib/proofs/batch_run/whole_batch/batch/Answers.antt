use Rattle.std.proofs.lemmas.Result.{IfOk-weaker}
use Rattle.dsn_outcome.specs.History.{history_of, sealed_letters}
use Rattle.noticed_lib.specs.batch_run.Requests.{requests_of}
use Rattle.noticed_lib.proofs.batch_run.BatchLemmas.{whole-batch, harvest-nothing, harvest-read}
use Rattle.noticed_lib.proofs.batch_run.RunLemmas.{stands-nothing}
use Rattle.dsn_notes.proofs.OpenLogsLemmas.{AreOpenLines-listed}
use Rattle.noticed_lib.proofs.batch_run.whole_batch.batch.Goals as goal

pub returns-in-Ok-clause-run : goal.returns-in-Ok-clause-run
returns-in-Ok-clause-run g c =
    let limits = c.args.limits.now in
    let heard = c.read_all-fault.ensures in
    let stands = heard.read.stands limits c.args.site c.args.outbox (stands-nothing _ limits c.args.site c.args.outbox _ _ c.in-Ok.ensures.limits c.in-Ok.ensures.stands c.new-outgoing.ensures.delivered) in
    let listed = AreOpenLines-listed _ c.open_lines-logs.result _ (IfOk-weaker c.open_lines-logs.result _ _ (λ lines listed. listed _ stands.stands.book) c.open_lines-logs.ensures.history) c.open_lines-logs.ensures.order in
    let harvest = harvest-read _ _ _ limits c.args.site c.args.outbox _ _ _ _ _ _ _ _ c.in-Ok.ensures.limits heard stands listed in
    whole-batch _ _ _ limits c.args.site _ _ c.args.outbox _ _ _ _ _ _ _ harvest
    (c.end.ensures c.args.site c.args.outbox (sealed_letters (history_of limits (requests_of harvest.bodies))) harvest.delivered)

pub returns-in-Err-clause-run : goal.returns-in-Err-clause-run
returns-in-Err-clause-run g c =
    let limits = c.args.limits.now in
    let harvest = harvest-nothing _ _ _ limits c.args.site c.args.outbox c.args.input.now c.args.notes.now _ _ c.new-in-Err.ensures.items c.new-outgoing.ensures.delivered in
    whole-batch _ _ _ limits c.args.site _ _ c.args.outbox _ _ _ _ _ _ _ harvest
    (c.end-in-Err.ensures c.args.site c.args.outbox (sealed_letters (history_of limits (requests_of harvest.bodies))) harvest.delivered)

pub returns-in-Ok-clause-steady : goal.returns-in-Ok-clause-steady
returns-in-Ok-clause-steady g c = c.read_all-fault.ensures.read.counts.stays_steady
