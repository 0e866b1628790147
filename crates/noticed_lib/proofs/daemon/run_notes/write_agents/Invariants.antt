use Rattle.std.proofs.Common.{take}
use Rattle.dsn_device.specs.UntilFailure.{WritesUntilFailure}
use Rattle.noticed_lib.specs.daemon.AgentLines.{agent_lines}
use Rattle.noticed_lib.proofs.daemon.run_notes.write_agents.Given as goal

abbrev pub invariant-loop-agent : goal.invariant-loop-agent
invariant-loop-agent g l =
    WritesUntilFailure g.N.Drain l.initial.writing.failed l.writing.failed l.initial.notes l.notes (agent_lines (take l.agent l.agents))
