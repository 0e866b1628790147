use Rattle.std.proofs.Common.{Err, get_or, refl}
use Rattle.std.proofs.lemmas.Result.{err_from_is_err_and}
use Rattle.dsn_postfix_notices.specs.requests.Deed.{MarkedDone}
use Rattle.dsn_postfix_notices.specs.requests.Finishing.{FailsToMark, marking}
use Rattle.dsn_postfix_notices.proofs.DeedLemmas.{gains_as, gains_one, left_at, marked_one_more, stopped_marking}
use Rattle.dsn_postfix_notices.proofs.requests.finish.mark_all.Goals as goal

-- a place wasn't marked
pub returns-in_err-mark_done : goal.returns-in_err-mark_done
returns-in_err-mark_done g c =
    let exit = err_from_is_err_and c.from_residual.result c.from_residual.ensures.1 in
    let place = get_or c.args.places.now c.loop-place.place-index 0 in
    let notice = c.args.notice.now in
    let fault = c.in_err-mark_done.field-0.0 in
    rw (exit.1, exit.2) (gains_as g.M.MailSystem.deeds _ _ _ _
    (stopped_marking g.M.MailSystem.deeds _ _ _ notice c.args.places.now _ _ place c.loop-place.invariant (left_at _ _ 0 c.loop-place-test.true)
    (gains_one g.M.MailSystem.deeds _ _ (MarkedDone notice.queue_name notice.queue_id place (Err fault)) (FailsToMark notice place) c.in_err-mark_done.ensures (record { fault = fault; tried = refl })))
    (λ gained stops. (refl, stops)))

-- one more place was marked
pub loop-place-preserved : goal.loop-place-preserved
loop-place-preserved g c =
    let place = get_or c.args.places.now c.loop-place.place-index 0 in
    marked_one_more g.M.MailSystem.deeds _ _ _ c.args.notice.now c.args.places.now _ _ place c.loop-place.invariant (left_at _ _ 0 c.loop-place-test.true)
    (gains_one g.M.MailSystem.deeds _ _ (marking c.args.notice.now place) _ c.in_ok-mark_done.ensures refl)
