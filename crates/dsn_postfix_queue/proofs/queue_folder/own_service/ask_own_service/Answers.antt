use Rattle.std.proofs.Common.{◌≡◌, ℕ, List, Result, Ok, Err, refl}
use Rattle.dsn_postfix_queue.specs.queue_folder.OwnService.AsksOwnService.{unannounced, unasked}
use Rattle.dsn_postfix_queue.proofs.OwnServiceLemmas.{asked}
use Rattle.dsn_postfix_queue.proofs.queue_folder.own_service.ask_own_service.Goals as goal

-- the announcement wasn't received
pub returns-in-Err : goal.returns-in-Err
returns-in-Err g c = unannounced _ refl c.in-Err.ensures.none

-- the request was sent
pub returns-in-Ok-say : goal.returns-in-Ok-say
returns-in-Ok-say g c =
    asked _ _ _ _ _ _ _ c.hear_status.result c.in-Ok.ensures.heard c.in-Ok-say.ensures.said c.hear_status.ensures.heard c.hear_status.ensures.none

-- the request wasn't sent
pub returns-in-Err-say : goal.returns-in-Err-say
returns-in-Err-say g c = unasked _ refl c.in-Ok.ensures.heard c.in-Err-say.ensures.part
