use Rattle.std.proofs.Common.{◌∙◌, ap, refl}
use Rattle.dsn_postfix_files.specs.LogRecord.{logged_bytes}
use Rattle.dsn_postfix_notices.specs.requests.AppendDeeds.{unsayable}
use Rattle.dsn_postfix_notices.proofs.DeedLemmas.{appended, gains_as}
use Rattle.dsn_postfix_notices.proofs.requests.append.append.Goals as goal

-- no line can express the record
pub returns-in-Err : goal.returns-in-Err
returns-in-Err g c =
    gains_as g.M.MailSystem.deeds _ _ _ _ c.pass_on.ensures (λ gained passes. unsayable c.in-Err.field c.in-Err.ensures.logged passes)

-- the record was appended
pub returns-in-Ok-append_to_log : goal.returns-in-Ok-append_to_log
returns-in-Ok-append_to_log g c =
    appended g.M.MailSystem.deeds _ _ c.args.service c.args.request.now c.args.bytes.now _ _ _ c.in-Ok.ensures.logged.1
    (c.deref.ensures.value ∙ c.in-Ok-log_bytes.ensures.1 ∙ ap logged_bytes c.in-Ok.ensures.logged.0) refl c.in-Ok-append_to_log.ensures

-- the record wasn't appended
pub returns : goal.returns
returns g c =
    appended g.M.MailSystem.deeds _ _ c.args.service c.args.request.now c.args.bytes.now _ _ _ c.in-Ok.ensures.logged.1
    (c.deref.ensures.value ∙ c.in-Ok-log_bytes.ensures.1 ∙ ap logged_bytes c.in-Ok.ensures.logged.0) refl c.in-Err-append_to_log.ensures
