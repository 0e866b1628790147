use Rattle.std.proofs.Common.{◌∙◌}
use Rattle.dsn_postfix_notices.proofs.DeedLemmas.{one_accepted, one_refused}
use Rattle.dsn_postfix_notices.proofs.requests.hand_in_letters.hand_in_letter.Goals as goal

pub returns-in-Ok : goal.returns-in-Ok
returns-in-Ok g c =
    one_accepted g.M.MailSystem.deeds _ _ c.args.heading.now c.args.letter.now _ _ _ c.return_path.ensures (c.deref.ensures.value ∙ c.in_ok-message.ensures) c.in-Ok.ensures

pub returns : goal.returns
returns g c =
    one_refused g.M.MailSystem.deeds _ _ c.args.heading.now c.args.is_first c.args.letter.now _ _ c.in-Err.fault c.refusal.result c.return_path.ensures (c.deref.ensures.value ∙ c.in_ok-message.ensures) c.refusal.ensures c.in-Err.ensures
