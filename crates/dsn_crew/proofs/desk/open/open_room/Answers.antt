-- Each agent gets the next half of the request lane, and an answer lane of its own.
use Rattle.std.proofs.Common.{rules, ℕ, ap, sym, subst, ◌∙◌, arith}
use Rattle.dsn_crew.specs.lane.Halves.{Half, Identity}
use Rattle.dsn_outcome.specs.Request.{Request}
use Rattle.dsn_crew.specs.desk.Open.{IsLine, opened_agent}
use Rattle.dsn_crew.proofs.OpenLemmas.{crew_push, lines_push, next_half}
use Rattle.dsn_crew.proofs.desk.open.open_room.Goals as goal

pub loop-agent-preserved : goal.loop-agent-preserved
loop-agent-preserved g c =
    let it = next_half _ _ _ _ _ c.in-Some.half c.loop-agent-test.true c.loop-agent.invariant.left c.in-Some.ensures.items in
    let lane = ap (λ (half : Half Request). half.lane) it.0 in record {
      left = it.1;
      len = let before = c.loop-agent.invariant.len in let one = c.in-Some.ensures.len in let more = c.loop-agent-test.true in omega arith;
      crew =
          crew_push _ _ _ _ _ _ c.in-Ok-open_agent.one c.in-Ok-open_agent.line c.loop-agent.invariant.crew c.push_reserved.ensures.items c.push_reserved-in-loop-agent.ensures.items
          (c.in-Ok-open_agent.ensures.agent ∙ ap (λ (of : Identity Request). opened_agent c.limits-limits.result.requests of c.in-Ok-open_agent.line) lane);
      lines =
          lines_push _ _ c.in-Ok-open_agent.line c.loop-agent.invariant.lines (subst (λ (k : ℕ). IsLine k c.in-Ok-open_agent.line) (sym c.loop-agent.invariant.count.0) c.in-Ok-open_agent.ensures.line) c.push_reserved-in-loop-agent.ensures.items;
      count = (search rules, search rules);
      room = (search rules, search rules);
    }
