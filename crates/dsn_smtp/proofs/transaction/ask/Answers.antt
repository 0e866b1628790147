use Rattle.std.proofs.Common.{[], subst}
use Rattle.dsn_smtp.specs.Dialogue.{TakesTurn, Said, SaidPart}
use Rattle.dsn_smtp.specs.HandIn.{AsksAll, Listens, TurnsOver, fault_said}
use Rattle.dsn_smtp.proofs.TransactionLemmas.{asked, unsaid}
use Rattle.dsn_smtp.proofs.transaction.ask.Goals as goal

pub returns-in-Ok : goal.returns-in-Ok
returns-in-Ok g c =
    asked g.S.Source g.S.Drain c.args.stream.now c.say.new.stream c.listen.new.stream c.args.command.now c.args.buffer.now c.listen.new.buffer (fault_said c.listen.result)
    (subst (λ text. TakesTurn g.S.Source g.S.Drain c.args.stream.now c.say.new.stream (Said text)) c.text.ensures c.in-Ok.ensures.said)
    (subst (λ step. TurnsOver g.S.Source g.S.Drain c.say.new.stream c.listen.new.stream (Listens step (AsksAll [])) c.args.buffer.now c.listen.new.buffer (fault_said c.listen.result)) c.step.ensures c.listen.ensures)

pub returns-in-Err : goal.returns-in-Err
returns-in-Err g c =
    rw c.step-in-Err.ensures (unsaid g.S.Source g.S.Drain c.args.stream.now c.say.new.stream c.args.command.now c.args.buffer.now c.args.buffer.now
    (subst (λ text. TakesTurn g.S.Source g.S.Drain c.args.stream.now c.say.new.stream (SaidPart text)) c.text.ensures c.in-Err.ensures.part))
