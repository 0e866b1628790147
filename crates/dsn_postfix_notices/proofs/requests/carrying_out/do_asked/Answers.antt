use Rattle.std.proofs.Common.{subst, sym}
use Rattle.dsn_postfix_notices.specs.requests.AppendDeeds.{IsAppended}
use Rattle.dsn_postfix_notices.specs.requests.CarriedOut.{IsDone}
use Rattle.dsn_postfix_notices.specs.requests.Gains.{Gains}
use Rattle.dsn_postfix_notices.specs.requests.Task.{Terms}
use Rattle.dsn_postfix_notices.proofs.requests.carrying_out.do_asked.Goals as goal

pub returns-in-Append : goal.returns-in-Append
returns-in-Append g c =
    subst (λ request. Gains g.M.MailSystem.deeds c.args.system.now c.append.new.system (IsDone c.args.terms.now request c.args.bytes.now c.append.result)) (sym c.in-Append.is)
    (subst (λ (terms : Terms). Gains g.M.MailSystem.deeds c.args.system.now c.append.new.system (IsAppended terms.service c.in-Append.asked c.args.bytes.now c.append.result)) c.terms.view_is c.append.ensures)
