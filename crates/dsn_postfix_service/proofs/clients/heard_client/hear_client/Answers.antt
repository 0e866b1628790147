use Rattle.std.proofs.Common.{refl}
use Rattle.dsn_postfix_service.specs.clients.HeardClient.HearsNoClient.{no_list, unannounced}
use Rattle.dsn_postfix_service.proofs.clients.heard_client.hear_client.Goals as goal

-- the protocol couldn't be announced
pub returns-in-Err-clause-none : goal.returns-in-Err-clause-none
returns-in-Err-clause-none g c = unannounced c.announce.new.stream c.in-Err.ensures.unsaid

-- no list was received
pub returns-in-Err-hear_list-clause-none : goal.returns-in-Err-hear_list-clause-none
returns-in-Err-hear_list-clause-none g c =
    no_list c.announce.new.stream c.hear_list.new.stream c.in-Err-hear_list.fault refl c.in-Ok.ensures.said c.in-Err-hear_list.ensures.none
