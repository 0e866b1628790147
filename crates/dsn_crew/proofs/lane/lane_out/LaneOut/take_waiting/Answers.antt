-- A take keeps the rule, and the rule gives the item's agent and number.
use Rattle.dsn_crew.proofs.LaneHalfLemmas.{keeps_receiving}
use Rattle.dsn_crew.proofs.lane.RuleLemmas.{takes}
use Rattle.dsn_crew.proofs.lane.lane_out.LaneOut.take_waiting.Goals as goal

pub try_recv_as-requires-clause-rule : goal.try_recv_as-requires-clause-rule
try_recv_as-requires-clause-rule g c = (takes _ _ _ _ _ _ c.self.invariant.1, λ _ _ _ _. tt)

pub returns-in-Ok-clause-numbered : goal.returns-in-Ok-clause-numbered
returns-in-Ok-clause-numbered g c =
    let kept = keeps_receiving g.T.Carried.agent g.T.Carried.number _ _ _ _ _ c.self.invariant.1 c.in-Ok.ensures.rule.0 c.in-Ok.ensures.rule.1 c.self.invariant.2 in
    kept.1.numbered
