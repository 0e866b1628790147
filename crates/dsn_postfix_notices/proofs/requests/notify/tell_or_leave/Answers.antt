use Rattle.std.proofs.Common.{◌≡◌, ◌∙◌, arith, false, sym}
use Rattle.dsn_postfix_notices.proofs.DeedLemmas.{gains_as, told_if_not_copied}
use Rattle.dsn_postfix_notices.proofs.requests.notify.tell_or_leave.Goals as goal

-- the postmaster gets no copy
pub returns : goal.returns
returns g c =
    let none : c.is_copied.result ≡ false = grind (arith, c.if-is_copied.false) in
    gains_as g.M.MailSystem.deeds _ _ _ _ c.tell.ensures
    (λ gained tells. told_if_not_copied c.args.task.now c.tell.result gained (sym c.is_copied.ensures ∙ none) tells)
