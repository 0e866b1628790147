use Rattle.std.proofs.Common.{◌≡◌, Err, arith, refl, true}
use Rattle.std.proofs.lemmas.Result.{err_from_is_err_and}
use Rattle.dsn_postfix_notices.specs.requests.Deed.{LogRemoved}
use Rattle.dsn_postfix_notices.specs.requests.Finishing.{unremoved}
use Rattle.dsn_postfix_notices.proofs.DeedLemmas.{gains_one}
use Rattle.dsn_postfix_notices.proofs.requests.finish.remove_if_due.Goals as goal

pub returns-in_err-remove_log : goal.returns-in_err-remove_log
returns-in_err-remove_log g c =
    let exit = err_from_is_err_and c.from_residual.result c.from_residual.ensures.1 in
    let due : c.args.due ≡ true = grind (arith, c.if-due.true) in
    let fault = c.in_err-remove_log.field-0.0 in
    rw (exit.1, exit.2) (gains_one g.M.MailSystem.deeds _ _ (LogRemoved c.args.service c.args.id (Err fault)) _ c.in_err-remove_log.ensures (unremoved fault due refl refl))
