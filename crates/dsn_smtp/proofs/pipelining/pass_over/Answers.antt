use Rattle.dsn_smtp.proofs.PipeliningLemmas.{passed_none, passed_over}
use Rattle.dsn_smtp.proofs.pipelining.pass_over.Goals as goal

pub returns-in-Ok : goal.returns-in-Ok
returns-in-Ok g c = passed_over _ _ _ _ c.in-Ok.field-0 _ c.in-Ok.ensures.heard

pub returns-in-Err : goal.returns-in-Err
returns-in-Err g c = passed_none _ _ _ _ c.in-Err.field-0 c.in-Err.ensures.none
