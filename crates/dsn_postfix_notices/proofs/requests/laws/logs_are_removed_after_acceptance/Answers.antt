use Rattle.dsn_postfix_notices.proofs.AnsweredLaws.{answered_removal}
use Rattle.dsn_postfix_notices.proofs.CarriedOutLaws.{removed_only_after}
use Rattle.dsn_postfix_notices.proofs.requests.laws.logs_are_removed_after_acceptance.Goals as goal

pub returns-clause-carried_out : goal.returns-clause-carried_out
returns-clause-carried_out c task bytes answer gained before after other named given done e =
    removed_only_after task bytes answer gained before after other named given done e

pub returns-clause-answered : goal.returns-clause-answered
returns-clause-answered c task bytes answer gained before after log named given asked is e =
    answered_removal task bytes answer gained before after log named given asked is e
