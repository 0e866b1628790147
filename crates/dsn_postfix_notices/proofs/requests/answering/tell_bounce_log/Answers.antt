use Rattle.std.proofs.Common.{List, ℕ, Err, [], ◌∷◌, ap, refl}
use Rattle.dsn_text.specs.declared.service.Service.TheVariants.{Bounce}
use Rattle.dsn_postfix_notices.specs.requests.AnsweredRequest.{unsought}
use Rattle.dsn_postfix_notices.specs.requests.Deed.{LogSought}
use Rattle.dsn_postfix_notices.proofs.DeedLemmas.{bounce_log_told, gains_one}
use Rattle.dsn_postfix_notices.proofs.requests.answering.tell_bounce_log.Goals as goal

-- there is a bounce log
pub returns-in-Ok-true : goal.returns-in-Ok-true
returns-in-Ok-true g c =
    bounce_log_told g.M.MailSystem.deeds _ _ _ c.args.terms.now c.args.first.now c.flush_bounce_log.result
    c.queue_id_of.result c.in-Ok-true.field-0 c.queue_id_of.ensures c.in-Ok-true.field-0-test c.in-Ok-true.ensures c.flush_bounce_log.ensures

-- it isn't known whether there is a bounce log
pub returns-in-Err : goal.returns-in-Err
returns-in-Err g c =
    gains_one g.M.MailSystem.deeds _ _ (LogSought Bounce c.queue_id_of.result (Err c.in-Err.field-0)) _ c.in-Err.ensures
    (unsought c.in-Err.field-0 (ap (λ (id : List ℕ). LogSought Bounce id (Err c.in-Err.field-0) ∷ []) c.queue_id_of.ensures) refl)
