use Rattle.std.proofs.Common.{List, ℕ, subst, sym}
use Rattle.dsn_text.specs.declared.service.Service.TheVariants.{Bounce}
use Rattle.dsn_postfix.specs.PostfixRequest.{IsRequestIn}
use Rattle.dsn_postfix_notices.specs.requests.AnsweredRequest.{flushed}
use Rattle.dsn_postfix_notices.specs.requests.CarriedOut.{IsCarriedOut}
use Rattle.dsn_postfix_notices.specs.requests.Task.{Terms}
use Rattle.dsn_postfix_notices.proofs.DeedLemmas.{gains_as}
use Rattle.dsn_postfix_notices.proofs.requests.answering.flush_bounce_log.Goals as goal

-- there is memory for the bytes of the flush
pub returns-in-Ok : goal.returns-in-Ok
returns-in-Ok g c =
    gains_as g.M.MailSystem.deeds _ _ _ _ c.carry_out.ensures (λ gained out.
    flushed c.deref.result.now
    (subst (λ (bytes : List ℕ). IsRequestIn bytes c.args.first.now) (sym c.deref.ensures.value) c.in-Ok.ensures)
    (subst (λ (terms : Terms). IsCarriedOut terms c.args.first.now c.deref.result.now c.carry_out.result gained) c.bounce_terms.ensures out))
