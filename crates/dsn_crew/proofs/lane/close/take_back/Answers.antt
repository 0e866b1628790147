-- Joining a half's pass keeps the rule.
use Rattle.dsn_crew.proofs.lane.RuleLemmas.{joins}
use Rattle.dsn_crew.proofs.lane.close.take_back.Goals as goal

pub absorb-requires-clause-rule : goal.absorb-requires-clause-rule
absorb-requires-clause-rule g c = joins _ _ _ _ _ _ _ _ _ _ c.requires.receiver c.half.invariant.1
