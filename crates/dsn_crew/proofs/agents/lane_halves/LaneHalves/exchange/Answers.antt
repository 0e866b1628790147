-- The halves once a body was sent: an answer came, or none.
use Rattle.std.proofs.Common.{sym, ◌∙◌}
use Rattle.dsn_crew.proofs.agents.AgentLemmas.{ends_more, ends_same}
use Rattle.dsn_crew.proofs.agents.lane_halves.LaneHalves.exchange.Goals as goal
use Rattle.dsn_crew.proofs.agents.lane_halves.LaneHalves.exchange.Goals.{in-Ok, in-Err-take}

pub invariant_of-self-2 : goal.invariant_of-self-2
invariant_of-self-2 g c = (
  c.self.invariant.0 ∙ sym c.send.ensures.same.1,
  elim c.match-take.branch [
    | in-Ok w ↦ ends_more _ _ _ w.in-Ok.answer c.self.invariant.1 c.send.ensures.same.1 c.take.ensures.same.1 c.take.ensures.same.2 w.in-Ok.ensures.agent w.in-Ok.ensures.item
    | in-Err-take w ↦ ends_same _ _ _ c.self.invariant.1 c.send.ensures.same.1 c.take.ensures.same.1 c.take.ensures.same.2 w.in-Err-take.ensures.end
  ],
)
