use Rattle.std.proofs.Common.{◌≡◌, ◌∙◌, refl, subst, sym}
use Rattle.std.specs.Option.{option_map}
use Rattle.dsn_postfix_notices.specs.requests.Finishing.{FinishesAt, RemovesLog, is_removal_due, marked}
use Rattle.dsn_postfix_notices.specs.requests.Gains.{Gains}
use Rattle.dsn_postfix_notices.specs.requests.Task.{Task}
use Rattle.dsn_postfix_notices.proofs.DeedLemmas.{gains_more}
use Rattle.dsn_postfix_notices.proofs.requests.finish.finish.Goals as goal

-- all places were marked, and the log is removed if that is due
pub returns : goal.returns
returns g c =
    let id = c.task.inside.notice.now.queue_id in
    let of_service : c.service.result ≡ c.task.inside.terms.now.service = c.service.ensures ∙ (λ i. (sym c.task.view_is i).terms.service) in
    subst (λ (task : Task). Gains g.M.MailSystem.deeds c.args.system.now c.remove_if_due.new.system (FinishesAt task (option_map (λ log. log.now) c.args.log) c.args.places.now c.remove_if_due.result)) c.task.view_is
    (gains_more g.M.MailSystem.deeds _ _ _ _ _ _ c.in_ok-mark_all.ensures
    (subst (λ service. Gains g.M.MailSystem.deeds c.mark_all.new.system c.remove_if_due.new.system (RemovesLog service id (is_removal_due c.task.inside.request.now (option_map (λ log. log.now) c.args.log)) c.remove_if_due.result)) of_service
    (subst (λ due. Gains g.M.MailSystem.deeds c.mark_all.new.system c.remove_if_due.new.system (RemovesLog c.service.result id due c.remove_if_due.result)) c.is_removal_due-due.ensures c.remove_if_due.ensures))
    (λ marks removal are removes. marked marks removal refl are removes))
