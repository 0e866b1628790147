use Rattle.dsn_smtp.proofs.PipeliningLemmas.{cancelled, not_cancelled}
use Rattle.dsn_smtp.proofs.pipelining.cancel.Goals as goal

pub returns-in-Ok : goal.returns-in-Ok
returns-in-Ok g c = cancelled _ _ _ _ _ c.in-Ok.ensures.said c.pass_over.ensures

pub returns-in-Err : goal.returns-in-Err
returns-in-Err g c = not_cancelled _ _ _ _ c.in-Err.ensures.part
