use Rattle.std.proofs.Common.{refl}
use Rattle.std.proofs.lemmas.Result.{err_from_is_err_and}
use Rattle.dsn_smtp.specs.Session.{connected, unconnected}
use Rattle.dsn_smtp.proofs.kept_or_new.begin_anew.Goals as goal

-- no connection was made
pub returns-in_err-stream : goal.returns-in_err-stream
returns-in_err-stream g c =
    let exit = err_from_is_err_and c.from_residual.result c.from_residual.ensures.1 in
    rw (exit.1, exit.2) (unconnected c.in_err-stream.field-0.0 c.in_err-stream.ensures.given refl refl)

-- a session was begun over it, or couldn't be
pub returns : goal.returns
returns g c = connected c.in_ok-stream.stream c.in_ok-stream.ensures.given c.begin.ensures
