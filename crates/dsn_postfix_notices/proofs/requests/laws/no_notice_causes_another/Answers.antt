use Rattle.dsn_postfix_notices.proofs.AnsweredLaws.{answered_to_nobody}
use Rattle.dsn_postfix_notices.proofs.CarriedOutLaws.{nobody_is_told}
use Rattle.dsn_postfix_notices.proofs.requests.laws.no_notice_causes_another.Goals as goal

pub returns-clause-carried_out : goal.returns-clause-carried_out
returns-clause-carried_out c task bytes answer gained done none =
    nobody_is_told task bytes answer gained done none

pub returns-clause-answered : goal.returns-clause-answered
returns-clause-answered c task bytes answer gained asked is none =
    answered_to_nobody task bytes answer gained asked is none
