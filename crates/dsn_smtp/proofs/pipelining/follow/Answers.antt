use Rattle.std.proofs.Common.{[], ◌∷◌, subst}
use Rattle.dsn_smtp.specs.HandIn.{AsksAll, TurnsOver, fault_said}
use Rattle.dsn_smtp.proofs.PipeliningLemmas.{ends_there, ends_waiting}
use Rattle.dsn_smtp.proofs.pipelining.follow.Goals as goal

-- nothing went wrong
pub returns-in-None : goal.returns-in-None
returns-in-None g c =
    rw c.in-None.is
    (subst (λ command. TurnsOver g.S.Source g.S.Drain c.args.stream.now c.ask.new.stream (AsksAll (command ∷ [])) c.args.buffer.now c.ask.new.buffer (fault_said c.ask.result)) c.new.ensures c.ask.ensures)

-- the server waits for a message
pub returns-in-Some : goal.returns-in-Some
returns-in-Some g c =
    rw (c.in-Some.is, c.if-waits.true)
    (ends_waiting g.S.Source g.S.Drain c.args.stream.now c.cancel.new.stream c.in-Some.fault c.args.message.now c.args.buffer.now c.args.buffer.now c.cancel.ensures)

-- it waits for none
pub returns-in-Some-2 : goal.returns-in-Some-2
returns-in-Some-2 g c =
    rw (c.in-Some-2.is, c.if-waits.false)
    (ends_there g.S.Source g.S.Drain c.args.stream.now c.in-Some-2.fault c.args.message.now c.args.buffer.now c.args.buffer.now)
