use Rattle.std.proofs.Common.{◌≡◌, Err, [], ◌∷◌, subst}
use Rattle.std.proofs.lemmas.Result.{err_from_is_err_and}
use Rattle.dsn_postfix_notices.specs.requests.Deed.{MessageRead}
use Rattle.dsn_postfix_notices.specs.requests.Gains.{with_deeds}
use Rattle.dsn_postfix_notices.specs.requests.Task.{Task}
use Rattle.dsn_postfix_notices.proofs.DeedLemmas.{unread_log, unread_message}
use Rattle.dsn_postfix_notices.proofs.requests.mail_found.read_mail.Goals as goal

pub returns-in_err-log : goal.returns-in_err-log
returns-in_err-log g c =
    let exit = err_from_is_err_and c.from_residual.result c.from_residual.ensures.1 in
    rw (exit.1, exit.2) (unread_log g.M.MailSystem.deeds _ _ c.args.task.now c.in_err-log.field-0.0 c.in_err-log.ensures)

pub returns-in_err-file : goal.returns-in_err-file
returns-in_err-file g c =
    let exit = err_from_is_err_and c.from_residual-in_err-file.result c.from_residual-in_err-file.ensures.1 in
    let fault = c.in_err-file.field-0.0 in
    rw (exit.1, exit.2) (unread_message g.M.MailSystem.deeds _ _ _ c.args.task.now _ fault c.in_ok-log.ensures
    (subst (λ (task : Task). g.M.MailSystem.deeds c.read_message.new.self ≡ with_deeds (g.M.MailSystem.deeds c.read_log.new.system) (MessageRead task.notice.queue_name task.notice.queue_id (Err fault) ∷ [])) c.task.view_is c.in_err-file.ensures))
