use Rattle.std.proofs.Common.{refl}
use Rattle.dsn_smtp.specs.Session.{asked, unbegun}
use Rattle.dsn_smtp.proofs.kept_or_new.hand_in_anew.Goals as goal

-- a session was begun
pub returns-in-Ok : goal.returns-in-Ok
returns-in-Ok g c = asked c.in-Ok.session c.begin_anew.new.buffer c.in-Ok.ensures c.hand_in.ensures.over

-- no session could be begun
pub returns-in-Err : goal.returns-in-Err
returns-in-Err g c = unbegun c.in-Err.fault c.in-Err.ensures refl refl
