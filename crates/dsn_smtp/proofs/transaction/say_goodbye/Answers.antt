use Rattle.dsn_smtp.proofs.TransactionLemmas.{said_goodbye, unsaid_goodbye}
use Rattle.dsn_smtp.proofs.transaction.say_goodbye.Goals as goal

pub returns-in-Ok : goal.returns-in-Ok
returns-in-Ok g c = said_goodbye _ _ _ _ c.in-Ok.ensures.said

pub returns-in-Err : goal.returns-in-Err
returns-in-Err g c = unsaid_goodbye _ _ _ _ c.in-Err.ensures.part
