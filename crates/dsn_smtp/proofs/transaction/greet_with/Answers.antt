use Rattle.std.proofs.Common.{[], ◌∷◌, subst}
use Rattle.dsn_smtp.specs.HandIn.{AsksAll, TurnsOver, fault_said}
use Rattle.dsn_smtp.proofs.TransactionLemmas.{greeted}
use Rattle.dsn_smtp.proofs.transaction.greet_with.Goals as goal

pub returns : goal.returns
returns g c =
    greeted g.S.Source g.S.Drain _ _ _ c.args.line.now _ _ _ (fault_said c.ask.result) c.in_ok-listen.ensures
    (subst (λ command. TurnsOver g.S.Source g.S.Drain c.listen.new.stream c.ask.new.stream (AsksAll (command ∷ [])) c.listen.new.buffer c.ask.new.buffer (fault_said c.ask.result)) c.new.ensures c.ask.ensures)
