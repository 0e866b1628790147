use Rattle.std.proofs.Common.{Ok, refl}
use Rattle.dsn_postfix_service.specs.clients.ServedClient.DoesAsked.{other, request}
use Rattle.dsn_postfix_notices.proofs.DeedLemmas.{gains_as}
use Rattle.dsn_postfix_notices.proofs.ServedLemmas.{gains_after}
use Rattle.dsn_postfix_service.proofs.clients.serving.answer_list.Goals as goal

-- the list is a request
pub returns-in_ok-moment-in-Ok : goal.returns-in_ok-moment-in-Ok
returns-in_ok-moment-in-Ok g c = record {
  moment = c.in_ok-moment-in-Ok.moment;
  answer = c.answer_request-answer.result;
  does = gains_after g.M.MailSystem.deeds _ _ _ _ _ c.begin.ensures c.answer_request-answer.ensures (λ gained answered. request c.in-Ok.request c.in-Ok.ensures.read answered);
  status_is = c.status_said.ensures;
}

-- the list is not a valid request, and needs no moment
pub returns-in-Err : goal.returns-in-Err
returns-in-Err g c = record {
  moment = 0;
  answer = Ok c.pass_on.result;
  does = gains_as g.M.MailSystem.deeds _ _ _ _ c.pass_on.ensures (λ gained passes. other c.in-Err.fault c.in-Err.ensures.refused passes);
  status_is = refl;
}
