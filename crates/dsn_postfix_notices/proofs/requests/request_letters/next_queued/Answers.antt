use Rattle.dsn_postfix_notices.proofs.RequestLetterLemmas.{first_if_none}
use Rattle.dsn_postfix_notices.proofs.requests.request_letters.next_queued.Goals as goal

pub returns-in-Ok-clause-listed : goal.returns-in-Ok-clause-listed
returns-in-Ok-clause-listed c recipients ending from = first_if_none c.in-Ok.found _ _ _ (c.in-Ok.ensures.listed recipients ending from)

pub returns-in-Err-clause-listed : goal.returns-in-Err-clause-listed
returns-in-Err-clause-listed c recipients ending from = (c.in-Err.ensures.listed recipients ending from).0
