use Rattle.std.proofs.Common.{◌≡◌, refl, subst, sym}
use Rattle.dsn_postfix.specs.PostfixAnswer.{announcement_bytes}
use Rattle.dsn_postfix_queue.specs.queue_folder.OwnService.HearsNoAnnouncement.{none, other}
use Rattle.dsn_postfix_queue.proofs.OwnServiceLemmas.{not_both}
use Rattle.dsn_postfix_queue.proofs.queue_folder.own_service.hear_announcement.Goals as goal

-- another list
pub returns-in-Ok-2-clause-none : goal.returns-in-Ok-2-clause-none
returns-in-Ok-2-clause-none g c =
    other _ refl c.in-Ok.ensures.heard (λ is. not_both _ (c.is_announcement.ensures.1 (subst (λ list. list ≡ announcement_bytes) (sym c.deref.ensures.value) is)) c.if-is_announcement.false)

-- no list
pub returns-in-Err-clause-none : goal.returns-in-Err-clause-none
returns-in-Err-clause-none g c = none _ c.deed_fault_of.ensures c.in-Err.ensures.none
