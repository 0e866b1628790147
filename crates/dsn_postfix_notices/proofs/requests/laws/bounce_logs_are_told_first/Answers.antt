use Rattle.dsn_postfix_notices.proofs.AnsweredLaws.{told_first}
use Rattle.dsn_postfix_notices.proofs.requests.laws.bounce_logs_are_told_first.Goals as goal

pub returns : goal.returns
returns c task first bytes answer gained deeds named flushes asked is zero e =
    told_first task first bytes answer gained deeds named flushes asked is zero e
