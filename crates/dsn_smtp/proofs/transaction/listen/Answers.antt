use Rattle.std.proofs.Common.{◌∙◌, sym, ap}
use Rattle.dsn_smtp.specs.HandIn.{is_wanted_reply}
use Rattle.dsn_smtp.proofs.TransactionLemmas.{listened, refused, unheard}
use Rattle.dsn_smtp.proofs.transaction.listen.Goals as goal

pub returns-in-Ok : goal.returns-in-Ok
returns-in-Ok g c = listened _ _ _ _ c.args.step c.in-Ok.code _ _ (ap (is_wanted_reply c.args.step) (sym c.class.ensures) ∙ sym c.if-wants.ensures) c.in-Ok.ensures.heard

pub returns-in-Ok-2 : goal.returns-in-Ok-2
returns-in-Ok-2 g c = refused _ _ _ _ c.args.step c.in-Ok.code _ _ (ap (is_wanted_reply c.args.step) (sym c.class.ensures) ∙ sym c.if-wants.ensures) c.in-Ok.ensures.heard

pub returns-in-Err : goal.returns-in-Err
returns-in-Err g c = unheard _ _ _ _ c.args.step c.in-Err.fault _ _ c.in-Err.ensures.none
