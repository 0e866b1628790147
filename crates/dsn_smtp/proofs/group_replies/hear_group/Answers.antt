use Rattle.std.proofs.Common.{[], ◌∷◌, ap, sym, ◌∙◌}
use Rattle.dsn_smtp.specs.HandIn.{is_wanted_reply}
use Rattle.dsn_smtp.specs.declared.hand_in_step.HandInStep.TheVariants.{Sender, Recipient, Data}
use Rattle.dsn_smtp.proofs.GroupLemmas.{first_missing, first_refused, first_wanted}
use Rattle.dsn_smtp.proofs.group_replies.hear_group.Goals as goal

pub returns-in-Ok-clause-replies : goal.returns-in-Ok-clause-replies
returns-in-Ok-clause-replies g c =
    first_wanted g.S.Source c.args.ahead.now c.hear_one.new.ahead c.hear_after_sender.new.ahead Sender Recipient (Data ∷ []) c.in-Ok.code c.hear_one.new.buffer c.hear_after_sender.result
    c.in-Ok.ensures.heard (ap (is_wanted_reply Sender) (sym c.class.ensures) ∙ sym c.if-wants.ensures) c.hear_after_sender.ensures.replies

pub returns-in-Ok-2-clause-replies : goal.returns-in-Ok-2-clause-replies
returns-in-Ok-2-clause-replies g c =
    rw c.refused.ensures
    (first_refused g.S.Source c.args.ahead.now c.hear_one.new.ahead c.hear_after_sender-later.new.ahead Sender Recipient (Data ∷ []) c.in-Ok.code c.hear_one.new.buffer
    c.hear_after_sender-later.result c.in-Ok.ensures.heard (ap (is_wanted_reply Sender) (sym c.class.ensures) ∙ sym c.if-wants.ensures) c.hear_after_sender-later.ensures.replies)

pub returns-in-Err-clause-replies : goal.returns-in-Err-clause-replies
returns-in-Err-clause-replies g c =
    rw c.missing.ensures (first_missing g.S.Source c.args.ahead.now c.hear_one.new.ahead Sender (Recipient ∷ (Data ∷ [])) c.in-Err.why c.in-Err.ensures.missing)
