use Rattle.std.proofs.Common.{◌∙◌}
use Rattle.dsn_device.proofs.UntilFailureLemmas.{writes-as, writes-none, writes-then}
use Rattle.noticed_lib.proofs.daemon.AgentLinesLemmas.{agent_lines-none, agent_lines-take-more}
use Rattle.noticed_lib.proofs.daemon.run_notes.write_agents.Goals as goal

pub loop-agent-init : goal.loop-agent-init
loop-agent-init g c = rw (← agent_lines-none) (writes-none _ _)

pub loop-agent-preserved : goal.loop-agent-preserved
loop-agent-preserved g c =
    let more = agent_lines-take-more c.args.agents.now c.loop-agent.agent _ c.loop-agent-test.true in
    let line = c.as_bytes.ensures.value ∙ (c.deref.ensures.0 ∙ c.agent_line.ensures) in
    writes-as more (rw line at (writes-then c.loop-agent.invariant c.write.ensures))
