use Rattle.std.proofs.Common.{List, ℕ, refl, subst}
use Rattle.dsn_postfix_service.specs.clients.ServedClient.{IsDoneFor}
use Rattle.dsn_postfix_service.specs.clients.ServedClient.AnswersClient.{done}
use Rattle.dsn_postfix_service.proofs.clients.serving.answer_client.Goals as goal

-- the client was answered
pub returns-in-Some-clause-answered : goal.returns-in-Some-clause-answered
returns-in-Some-clause-answered g c =
    done c.in-Some.status
    (subst
    (λ (list : List ℕ). IsDoneFor g.M.MailSystem.deeds c.args.settings.now c.args.service list c.args.first_serial c.args.system.now c.answer_list.new.system c.in-Some.status)
    c.deref.ensures.value c.in-Some.ensures)
    c.say_status.ensures
