-- An agent and the allocator may go to a thread of their own; the agent may come back from it once it said goodbye.
use denote.Param.Send.{IsSend, sendable}
use Rattle.std.proofs.Crossing.{crosses}
use Rattle.std.proofs.option.Option.TheSendSync as option
use Rattle.std.specs.contracts.alloc.Global as Global
use Rattle.dsn_crew.specs.contracts.agents.agent.Agent as Agent
use Rattle.dsn_crew.specs.contracts.agents.finished_agent.Finished as Finished
use Rattle.dsn_crew.specs.contracts.agents.port_end.PortEnd as PortEnd
use Rattle.dsn_crew.proofs.LaneSendLemmas.{requests_in_send, answers_out_send}

pub global_send : IsSend Global.the_row
global_send = search sendable depth 20

pub agent_send : IsSend Agent.the_row
agent_send = search (requests_in_send, answers_out_send, crosses, option.the_field_send, sendable) depth 20

pub finished_send : IsSend Finished.the_row
finished_send = search (requests_in_send, answers_out_send, crosses, sendable) depth 20

-- the end of an agent that served its port
pub port_end_send : IsSend PortEnd.the_row
port_end_send = search (finished_send, crosses, option.the_field_send, sendable) depth 20
