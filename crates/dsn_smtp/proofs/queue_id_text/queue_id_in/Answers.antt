use Rattle.std.proofs.Common.{◌∙◌, refl, sym, subst, ap, false, true, ◌≡◌}
use Rattle.std.specs.Prelude.{Some}
use Rattle.dsn_text.specs.Text.{IsQueueId}
use Rattle.dsn_smtp.specs.QueueIdIn.{TellsQueueId}
use Rattle.dsn_smtp.proofs.QueueIdLemmas.{after_space, ends_before, found_in, is_some_of, tells}
use Rattle.dsn_smtp.proofs.queue_id_text.queue_id_in.Goals as goal

pub returns-then-not-ends_with-clause-only : goal.returns-then-not-ends_with-clause-only
returns-then-not-ends_with-clause-only c id tells =
    let ends = ends_before c.args.text.now id c.after_last_byte-id.result.now _ tells c.after_last_byte-id.ensures refl in
    let never : false ≡ true = c.if-not-ends_with.ensures.value ∙ ends in absurd cc

pub returns-clause-found : goal.returns-clause-found
returns-clause-found c = found_in c.new.result c.after_last_byte-id.result.now (TellsQueueId c.args.text.now) c.new.ensures.some c.new.ensures.kept
    (λ legal. tells c.args.text.now c.after_last_byte-id.result.now _ legal c.after_last_byte-id.ensures refl (sym c.if-not-ends_with.ensures.value))

pub returns-clause-only : goal.returns-clause-only
returns-clause-only c id tells =
    let is = c.after_last_byte-id.ensures ∙ after_space c.args.text.now id tells in
    is_some_of c.new.result c.after_last_byte-id.result.now c.new.ensures.some c.new.ensures.kept (subst IsQueueId (sym is) tells.legal) ∙ ap Some is
