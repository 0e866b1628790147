-- the session that was used, kept or none
use Rattle.dsn_smtp.specs.Session.{over_some}
use Rattle.dsn_smtp.proofs.kept_sessions.KeptSessions.hand_in.Goals as goal

pub returns : goal.returns
returns g c =
    over_some c.session_for-session.result c.hand_in_over-handed.result.session c.hand_in_over-handed.ensures.begun
    (rw c.end_turn.ensures c.hand_in_over-handed.ensures.over)
