use Rattle.std.proofs.Common.{◌≡◌, Err, refl, subst}
use Rattle.dsn_postfix.specs.PostfixAnswer.{status_at}
use Rattle.dsn_postfix_queue.specs.queue_folder.OwnService.HearsNoStatus.{none, other}
use Rattle.dsn_postfix_queue.proofs.queue_folder.own_service.hear_status.Goals as goal

-- no list
pub returns-in-Err-clause-none : goal.returns-in-Err-clause-none
returns-in-Err-clause-none g c = none _ c.deed_fault_of.ensures c.in-Err.ensures.none

-- a list that is not a valid status
pub returns-clause-none : goal.returns-clause-none
returns-clause-none g c =
    other _ _ refl c.in-Ok.ensures.heard
    (subst (λ list. status_at list ≡ Err c.in-Err-decode_status.field-0) c.deref.ensures.value c.in-Err-decode_status.ensures.refused)
