use Rattle.dsn_postfix_notices.proofs.AnsweredLaws.{answered_hand_ins}
use Rattle.dsn_postfix_notices.proofs.CarriedOutLaws.{handed_in_once}
use Rattle.dsn_postfix_notices.proofs.requests.laws.notices_are_handed_in_once.Goals as goal

pub returns-clause-carried_out : goal.returns-clause-carried_out
returns-clause-carried_out c task bytes answer gained done =
    handed_in_once task bytes answer gained done

pub returns-clause-answered : goal.returns-clause-answered
returns-clause-answered c task bytes answer gained asked is =
    answered_hand_ins task bytes answer gained asked is
