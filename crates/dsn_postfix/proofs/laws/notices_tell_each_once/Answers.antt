use Rattle.dsn_postfix.proofs.NoticePlanLaws.{asked_of, tell_each_once}
use Rattle.dsn_postfix.proofs.laws.notices_tell_each_once.Goals as goal

pub returns : goal.returns
returns c double_bounce service request notice queued log records notices asked sent are is =
    tell_each_once service request notice queued records notices (asked_of double_bounce service request notice queued log records notices asked sent are is)
