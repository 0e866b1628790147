use Rattle.std.proofs.Common.{refl, subst}
use Rattle.dsn_postfix_notices.specs.requests.CarriedOut.{Cleans}
use Rattle.dsn_postfix_notices.specs.requests.Gains.{Gains}
use Rattle.dsn_postfix_notices.proofs.DeedLemmas.{gains_more}
use Rattle.dsn_postfix_notices.proofs.requests.carrying_out.carry_out.Goals as goal

-- the deeds that were asked for, and then those of CLEAN
pub returns : goal.returns
returns g c =
    gains_more g.M.MailSystem.deeds _ _ _ _ _ _ c.do_asked-answer.ensures
    (subst (λ due. Gains g.M.MailSystem.deeds c.do_asked-answer.new.system c.clean.new.system (Cleans c.args.terms.now.service c.args.request.now due)) c.must_clean-due.ensures c.clean.ensures)
    (λ done cleaned is_done clean. record { done = done; cleaned = cleaned; gained_are = refl; is_done = is_done; clean = clean })
