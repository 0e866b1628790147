use Rattle.dsn_postfix_notices.proofs.DeedLemmas.{notified}
use Rattle.dsn_postfix_notices.proofs.requests.notify.notify.Goals as goal

pub returns : goal.returns
returns g c = notified g.M.MailSystem.deeds _ _ _ _ _ _ _ c.tell_or_leave-telling.result c.tell_or_leave-telling.ensures c.release_log.ensures c.end_telling.ensures
