use Rattle.std.proofs.Common.{[], ap, sym, ◌∙◌}
use Rattle.dsn_smtp.specs.HandIn.{is_wanted_reply}
use Rattle.dsn_smtp.specs.declared.hand_in_step.HandInStep.TheVariants.{Data}
use Rattle.dsn_smtp.proofs.GroupLemmas.{first_missing, last_refused, last_wanted}
use Rattle.dsn_smtp.proofs.group_replies.hear_data.Goals as goal

pub returns-in-Ok-clause-replies : goal.returns-in-Ok-clause-replies
returns-in-Ok-clause-replies g c =
    last_wanted g.S.Source c.args.ahead.now c.hear_last.new.ahead Data c.in-Ok.code c.hear_last.new.buffer c.in-Ok.ensures.heard
    (ap (is_wanted_reply Data) (sym c.class.ensures) ∙ sym c.if-wants.ensures)

pub returns-in-Ok-2-clause-replies : goal.returns-in-Ok-2-clause-replies
returns-in-Ok-2-clause-replies g c =
    last_refused g.S.Source c.args.ahead.now c.hear_last.new.ahead Data c.in-Ok.code c.hear_last.new.buffer c.in-Ok.ensures.heard
    (ap (is_wanted_reply Data) (sym c.class.ensures) ∙ sym c.if-wants.ensures)

pub returns-in-Err-clause-replies : goal.returns-in-Err-clause-replies
returns-in-Err-clause-replies g c =
    rw c.missing.ensures (first_missing g.S.Source c.args.ahead.now c.hear_last.new.ahead Data [] c.in-Err.why c.in-Err.ensures.missing)
